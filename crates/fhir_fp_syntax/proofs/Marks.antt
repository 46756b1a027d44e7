-- Signs, and words that are no names.
use Rattle.std.proofs.Common.{◌≡◌, ℕ, Bool, true, false, cond, eqb, List, [], ◌∷◌, ◌++◌, Option, Some, None, refl, sym, ap, ap₂, subst, ◌∙◌, inl, inr}
use Rattle.std.specs.Prelude.{bytes_eq}
use Rattle.std.specs.List.{list_all}
use Rattle.std.proofs.lemmas.Bool.{cases_Bool, and_parts, eqb-true, true≢false}
use Rattle.fhir_fp_syntax.specs.declared.token.Mark.{Mark}
use Rattle.fhir_fp_syntax.specs.declared.token.Mark.TheVariants as marks
use Rattle.fhir_fp_syntax.specs.Characters.{is_name_start, is_name_character, begins}
use Rattle.fhir_fp_syntax.specs.Words.{Word, marked}
use Rattle.fhir_fp_syntax.specs.Tokens.{spelling, goes_on}
use Rattle.fhir_fp_syntax.specs.Lexing.{mark_among, word_marks, mark_named, single_sign, double_sign, double_or_single, sign_at}
use Rattle.fhir_fp_syntax.proofs.Options.{bind_some, chosen, some_is, no_some, bytes_same}

-- ---- words

-- the mark is spelled with letters
abbrev pub is_word : Mark → Bool
is_word marks.Open = false
is_word marks.Close = false
is_word marks.OpenBracket = false
is_word marks.CloseBracket = false
is_word marks.Dot = false
is_word marks.Bar = false
is_word marks.Less = false
is_word marks.LessOrEqual = false
is_word marks.Greater = false
is_word marks.GreaterOrEqual = false
is_word marks.Equal = false
is_word marks.NotEqual = false
is_word marks.Braces = false
is_word m = true

among : (ms : List Mark) → list_all is_word ms ≡ true → (s : List ℕ) (m : Mark) → mark_among ms s ≡ Some m → (s ≡ spelling m) × (is_word m ≡ true)
among [] all s m h = absurd (no_some m h)
among (n ∷ ms) all s m h =
    let both = and_parts (is_word n) (list_all is_word ms) all in
    elim (chosen (bytes_eq s (spelling n)) _ _ _ h) [
      | inl is ↦
          let same = some_is n m is.1 in
          (bytes_same s (spelling n) is.0 ∙ ap spelling same, subst (λ (k : Mark). is_word k ≡ true) same both.0)
      | inr isnt ↦ among ms both.1 s m isnt.1
    ]

pub mark_stands : (s : List ℕ) (m : Mark) → mark_named s ≡ Some m → (s ≡ spelling m) × (is_word m ≡ true)
unfolding mark_named
mark_stands s m h = among word_marks refl s m h

-- a mark of letters goes on with the characters of a name
pub word_goes_on : (m : Mark) → is_word m ≡ true → (rest : List ℕ) → begins is_name_character rest ≡ false → begins (goes_on m) rest ≡ false
word_goes_on m is [] stop = refl
word_goes_on marks.Open is (b ∷ rest) stop = refl
word_goes_on marks.Close is (b ∷ rest) stop = refl
word_goes_on marks.OpenBracket is (b ∷ rest) stop = refl
word_goes_on marks.CloseBracket is (b ∷ rest) stop = refl
word_goes_on marks.Dot is (b ∷ rest) stop = refl
word_goes_on marks.Bar is (b ∷ rest) stop = refl
word_goes_on marks.Less is (b ∷ rest) stop = absurd cc
word_goes_on marks.LessOrEqual is (b ∷ rest) stop = refl
word_goes_on marks.Greater is (b ∷ rest) stop = absurd cc
word_goes_on marks.GreaterOrEqual is (b ∷ rest) stop = refl
word_goes_on marks.Equal is (b ∷ rest) stop = refl
word_goes_on marks.NotEqual is (b ∷ rest) stop = refl
word_goes_on marks.Braces is (b ∷ rest) stop = refl
word_goes_on m is (b ∷ rest) stop = stop

-- a sign begins no name
sign_starts : (m : Mark) → is_word m ≡ false → begins is_name_start (spelling m) ≡ false
sign_starts marks.Open is = refl
sign_starts marks.Close is = refl
sign_starts marks.OpenBracket is = refl
sign_starts marks.CloseBracket is = refl
sign_starts marks.Dot is = refl
sign_starts marks.Bar is = refl
sign_starts marks.Less is = refl
sign_starts marks.LessOrEqual is = refl
sign_starts marks.Greater is = refl
sign_starts marks.GreaterOrEqual is = refl
sign_starts marks.Equal is = refl
sign_starts marks.NotEqual is = refl
sign_starts marks.Braces is = refl
sign_starts m is = absurd cc

pub mark_again : (m : Mark) → is_word m ≡ true → mark_named (spelling m) ≡ Some m
unfolding mark_named
mark_again marks.And is = refl
mark_again marks.Or is = refl
mark_again marks.Xor is = refl
mark_again marks.Implies is = refl
mark_again marks.In is = refl
mark_again marks.Contains is = refl
mark_again marks.Is is = refl
mark_again marks.As is = refl
mark_again marks.True is = refl
mark_again marks.False is = refl
mark_again marks.Div is = refl
mark_again marks.Mod is = refl
mark_again marks.This is = refl
mark_again marks.Resource is = refl
mark_again marks.Context is = refl
mark_again m is = absurd cc

-- what is no mark of letters and begins as a name is no mark
pub name_stands : (s : List ℕ) → begins is_name_start s ≡ true → mark_named s ≡ None → (m : Mark) → spelling m ≡ s → ⊥
name_stands s start none m is =
    elim (cases_Bool (is_word m)) [
      | inl word ↦ no_some m (sym none ∙ ap mark_named (sym is) ∙ mark_again m word)
      | inr sign ↦ true≢false (sym start ∙ ap (begins is_name_start) (sym is) ∙ sign_starts m sign)
    ]

pub name_again : (s : List ℕ) → ((m : Mark) → spelling m ≡ s → ⊥) → mark_named s ≡ None
name_again s never = at (mark_named s) refl
  where
    at : (o : Option Mark) → mark_named s ≡ o → o ≡ None
    at None is = refl
    at (Some m) is = absurd (never m (sym (mark_stands s m is).0))

-- ---- signs

abbrev pub SignStands : ℕ → Mark → Type 0
SignStands b m = (spelling m ≡ b ∷ []) × (is_word m ≡ false)

sign : (b c : ℕ) (n m : Mark) → b ≡ c → spelling n ≡ c ∷ [] → is_word n ≡ false → n ≡ m → SignStands b m
sign b c n m e s w same = subst (λ (k : Mark). SignStands b k) same (s ∙ ap (λ (x : ℕ). x ∷ []) (sym e), w)

single_stands : (b : ℕ) (m : Mark) → single_sign b ≡ Some m → SignStands b m
single_stands b m h =
    elim (chosen (eqb b 40) _ _ _ h) [
      | inl is0 ↦ sign b 40 marks.Open m (eqb-true b 40 is0.0) refl refl (some_is marks.Open m is0.1)
      | inr no0 ↦
          elim (chosen (eqb b 41) _ _ _ no0.1) [
            | inl is1 ↦ sign b 41 marks.Close m (eqb-true b 41 is1.0) refl refl (some_is marks.Close m is1.1)
            | inr no1 ↦
                elim (chosen (eqb b 91) _ _ _ no1.1) [
                  | inl is2 ↦ sign b 91 marks.OpenBracket m (eqb-true b 91 is2.0) refl refl (some_is marks.OpenBracket m is2.1)
                  | inr no2 ↦
                      elim (chosen (eqb b 93) _ _ _ no2.1) [
                        | inl is3 ↦ sign b 93 marks.CloseBracket m (eqb-true b 93 is3.0) refl refl (some_is marks.CloseBracket m is3.1)
                        | inr no3 ↦
                            elim (chosen (eqb b 46) _ _ _ no3.1) [
                              | inl is4 ↦ sign b 46 marks.Dot m (eqb-true b 46 is4.0) refl refl (some_is marks.Dot m is4.1)
                              | inr no4 ↦
                                  elim (chosen (eqb b 124) _ _ _ no4.1) [
                                    | inl is5 ↦ sign b 124 marks.Bar m (eqb-true b 124 is5.0) refl refl (some_is marks.Bar m is5.1)
                                    | inr no5 ↦
                                        elim (chosen (eqb b 60) _ _ _ no5.1) [
                                          | inl is6 ↦ sign b 60 marks.Less m (eqb-true b 60 is6.0) refl refl (some_is marks.Less m is6.1)
                                          | inr no6 ↦
                                              elim (chosen (eqb b 62) _ _ _ no6.1) [
                                                | inl is7 ↦ sign b 62 marks.Greater m (eqb-true b 62 is7.0) refl refl (some_is marks.Greater m is7.1)
                                                | inr no7 ↦
                                                    elim (chosen (eqb b 61) _ _ _ no7.1) [
                                                      | inl is8 ↦ sign b 61 marks.Equal m (eqb-true b 61 is8.0) refl refl (some_is marks.Equal m is8.1)
                                                      | inr no8 ↦
                                                          absurd (no_some m no8.1)
                                                    ]
                                              ]
                                        ]
                                  ]
                            ]
                      ]
                ]
          ]
    ]

double : (a b c d : ℕ) (n m : Mark) → a ≡ c → cond (eqb b d) (Some n) None ≡ Some m → spelling n ≡ c ∷ d ∷ [] → (spelling m ≡ a ∷ b ∷ []) × (n ≡ m)
double a b c d n m e h s =
    elim (chosen (eqb b d) _ _ _ h) [
      | inl is ↦
          let same = some_is n m is.1 in
          (ap spelling (sym same) ∙ s ∙ ap₂ (λ (x y : ℕ). x ∷ y ∷ []) (sym e) (sym (eqb-true b d is.0)), same)
      | inr isnt ↦ absurd (no_some m isnt.1)
    ]

ends : (m : Mark) (rest : List ℕ) → ((c : ℕ) → goes_on m c ≡ false) → begins (goes_on m) rest ≡ false
ends m [] h = refl
ends m (c ∷ rest) h = h c

double_stands : (a b : ℕ) (m : Mark) → double_sign a b ≡ Some m → (spelling m ≡ a ∷ b ∷ []) × ((rest : List ℕ) → begins (goes_on m) rest ≡ false)
double_stands a b m h =
    elim (chosen (eqb a 60) _ _ _ h) [
      | inl is0 ↦ let k = double a b 60 61 marks.LessOrEqual m (eqb-true a 60 is0.0) is0.1 refl in (k.0, subst (λ (n : Mark). (rest : List ℕ) → begins (goes_on n) rest ≡ false) k.1 (λ rest. ends marks.LessOrEqual rest (λ c. refl)))
      | inr no0 ↦
          elim (chosen (eqb a 62) _ _ _ no0.1) [
            | inl is1 ↦ let k = double a b 62 61 marks.GreaterOrEqual m (eqb-true a 62 is1.0) is1.1 refl in (k.0, subst (λ (n : Mark). (rest : List ℕ) → begins (goes_on n) rest ≡ false) k.1 (λ rest. ends marks.GreaterOrEqual rest (λ c. refl)))
            | inr no1 ↦
                elim (chosen (eqb a 33) _ _ _ no1.1) [
                  | inl is2 ↦ let k = double a b 33 61 marks.NotEqual m (eqb-true a 33 is2.0) is2.1 refl in (k.0, subst (λ (n : Mark). (rest : List ℕ) → begins (goes_on n) rest ≡ false) k.1 (λ rest. ends marks.NotEqual rest (λ c. refl)))
                  | inr no2 ↦
                      elim (chosen (eqb a 123) _ _ _ no2.1) [
                        | inl is3 ↦ let k = double a b 123 125 marks.Braces m (eqb-true a 123 is3.0) is3.1 refl in (k.0, subst (λ (n : Mark). (rest : List ℕ) → begins (goes_on n) rest ≡ false) k.1 (λ rest. ends marks.Braces rest (λ c. refl)))
                        | inr no3 ↦
                            absurd (no_some m no3.1)
                      ]
                ]
          ]
    ]

-- a sign that might go on ends where it doesn't
single_ends : (a b : ℕ) (m : Mark) → SignStands a m → double_sign a b ≡ None → goes_on m b ≡ false
single_ends a b marks.Less is h = lesser a b (ap first (sym is.0)) h
  where
    first : List ℕ → ℕ
    first [] = 0
    first (x ∷ s) = x

    lesser : (a b : ℕ) → a ≡ 60 → double_sign a b ≡ None → eqb b 61 ≡ false
    lesser a b e h = at b (subst (λ (x : ℕ). double_sign x b ≡ None) e h)
      where
        at : (b : ℕ) → double_sign 60 b ≡ None → eqb b 61 ≡ false
        at b h = elim (cases_Bool (eqb b 61)) [ inl is ↦ absurd (no_some marks.LessOrEqual (sym h ∙ rw is refl)) | inr isnt ↦ isnt ]
single_ends a b marks.Greater is h = greater a b (ap first (sym is.0)) h
  where
    first : List ℕ → ℕ
    first [] = 0
    first (x ∷ s) = x

    greater : (a b : ℕ) → a ≡ 62 → double_sign a b ≡ None → eqb b 61 ≡ false
    greater a b e h = at b (subst (λ (x : ℕ). double_sign x b ≡ None) e h)
      where
        at : (b : ℕ) → double_sign 62 b ≡ None → eqb b 61 ≡ false
        at b h = elim (cases_Bool (eqb b 61)) [ inl is ↦ absurd (no_some marks.GreaterOrEqual (sym h ∙ rw is refl)) | inr isnt ↦ isnt ]
single_ends a b marks.Open is h = refl
single_ends a b marks.Close is h = refl
single_ends a b marks.OpenBracket is h = refl
single_ends a b marks.CloseBracket is h = refl
single_ends a b marks.Dot is h = refl
single_ends a b marks.Bar is h = refl
single_ends a b marks.LessOrEqual is h = refl
single_ends a b marks.GreaterOrEqual is h = refl
single_ends a b marks.Equal is h = refl
single_ends a b marks.NotEqual is h = refl
single_ends a b marks.Braces is h = refl
single_ends a b m is h = absurd (true≢false is.1)

abbrev pub MarkStands : List ℕ → Word × List ℕ → Type 0
MarkStands s x = (m : Mark) × (x.0 ≡ marked m) × (s ≡ spelling m ++ x.1) × (begins (goes_on m) x.1 ≡ false)

marks_moved : (s : List ℕ) (m : Mark) (rest : List ℕ) (x : Word × List ℕ) → s ≡ spelling m ++ rest → begins (goes_on m) rest ≡ false → (marked m, rest) ≡ x → MarkStands s x
marks_moved s m rest x is stop same = subst (λ (q : Word × List ℕ). MarkStands s q) same (m, refl, is, stop)

pub sign_stands : (s : List ℕ) (x : Word × List ℕ) → sign_at s ≡ Some x → MarkStands s x
unfolding sign_at
sign_stands [] x h = absurd (no_some x h)
sign_stands (a ∷ []) x h =
    let o = bind_some (single_sign a) _ x h in
    let k = single_stands a o.0 o.1 in
    marks_moved (a ∷ []) o.0 [] x (ap (λ (v : List ℕ). v ++ []) (sym k.0)) refl (some_is (marked o.0, []) x o.2)
sign_stands (a ∷ b ∷ s) x h = at (double_sign a b) refl h
  where
    at : (o : Option Mark) → double_sign a b ≡ o → double_or_single o a b s ≡ Some x → MarkStands (a ∷ b ∷ s) x
    at (Some m) is h =
        let k = double_stands a b m is in
        marks_moved (a ∷ b ∷ s) m s x (ap (λ (v : List ℕ). v ++ s) (sym k.0)) (k.1 s) (some_is (marked m, s) x h)
    at None is h =
        let o = bind_some (single_sign a) _ x h in
        let k = single_stands a o.0 o.1 in
        marks_moved (a ∷ b ∷ s) o.0 (b ∷ s) x (ap (λ (v : List ℕ). v ++ b ∷ s) (sym k.0)) (single_ends a b o.0 k is) (some_is (marked o.0, b ∷ s) x o.2)
