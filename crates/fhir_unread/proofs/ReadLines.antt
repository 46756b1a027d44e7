-- What the lines of a file of texts give, and which of them are told of.
use Rattle.std.proofs.Common.{◌≡◌, ℕ, zero, suc, ◌+◌, ◌<◌, Bool, true, false, cond, not, ◌&&◌, ◌||◌, List, [], ◌∷◌, ◌++◌, map, filter, length, get_or, Option, Some, None, refl, sym, ap, subst, ◌∙◌, append_assoc, arith, inl, inr}
use Rattle.std.specs.Prelude.{codes}
use Rattle.std.specs.Fmt.{decimal}
use Rattle.std.specs.List.{list_any, flat_map, slice_get, Contains}
use Rattle.std.specs.Str.{bytes_eq}
use Rattle.std.proofs.lemmas.Bool.{or_right, or_left, false≢true}
use Rattle.std.proofs.lemmas.List.Elements.{Contains-append_left, Contains-append_right, Contains-append_cases, Contains-push}
use Rattle.std.proofs.lemmas.List.Folds.{list_any-append}
use Rattle.std.proofs.lemmas.Slice.Eq.{bytes_eq-Decides}
use Rattle.fhir_json.specs.Tree.{Text}
use Rattle.fhir_json.specs.Strings.{IsText}
use Rattle.fhir_vouching.specs.Given.{is_comment, line_text, given_from}
use Rattle.fhir_vouching.proofs.Strings.{strings}
use Rattle.fhir_facets.specs.Unread.{Unread, Reading, strict, as_given, lenient, meaning_of, unread_text}
use Rattle.fhir_unread.specs.Given.{text_given, AreSame, is_known, unknown_lines, note}
use Rattle.fhir_unread.proofs.Gives.{texts_of, texts_given}

-- ---- the same texts mean the same

pub same_meaning : (xs ys : List Text) → AreSame xs ys → (r : Reading) (u : Unread) → meaning_of xs r u ≡ meaning_of ys r u
same_meaning xs ys same strict u = refl
same_meaning xs ys same as_given u = same (unread_text u)
same_meaning xs ys same lenient u = refl

-- ---- a text and its line

first_there : {X : Type 0} (x : X) (xs : List X) → Contains (x ∷ xs) x
first_there x xs = Contains-append_left (x ∷ []) xs x (Contains-push [] x)

rest_there : {X : Type 0} (x : X) (xs : List X) (y : X) → Contains xs y → Contains (x ∷ xs) y
rest_there x xs y h = Contains-append_right (x ∷ []) xs y h

module _ (t : Text) where
  abbrev pub GivesIt : Text → Type 0
  GivesIt line = (is_comment line ≡ false) × IsText line t

  abbrev among : List Text → Bool
  among ls = list_any (bytes_eq t) (flat_map text_given (texts_of ls))

  line_of : (ls : List Text) → among ls ≡ true → (line : Text) × Contains ls line × (is_comment line ≡ false) × IsText line t
  line_of [] h = absurd (false≢true h)
  line_of (l ∷ ls) h = by (is_comment l) refl (line_text l) refl h (line_of ls)
    where
      later : ((line : Text) × Contains ls line × (is_comment line ≡ false) × IsText line t)
          → (line : Text) × Contains (l ∷ ls) line × (is_comment line ≡ false) × IsText line t
      later w = (w.0, rest_there l ls w.0 w.1, w.2, w.3)

      here : (s : Text) → is_comment l ≡ false → line_text l ≡ Some s → (b : Bool) → bytes_eq t s ≡ b → (b || among ls) ≡ true
          → (among ls ≡ true → (line : Text) × Contains ls line × (is_comment line ≡ false) × IsText line t)
          → (line : Text) × Contains (l ∷ ls) line × (is_comment line ≡ false) × IsText line t
      here s none e true same h rest =
          (l, first_there l ls, none, (strings l t).0 (e ∙ ap (λ (w : Text). Some w) (sym ((bytes_eq-Decides t s).0 same))))
      here s none e false other h rest = later (rest h)

      by : (b : Bool) → is_comment l ≡ b → (o : Option Text) → line_text l ≡ o
          → list_any (bytes_eq t) (flat_map text_given (map line_text (cond (not b) (l ∷ filter (λ m. not (is_comment m)) ls) (filter (λ m. not (is_comment m)) ls)))) ≡ true
          → (among ls ≡ true → (line : Text) × Contains ls line × (is_comment line ≡ false) × IsText line t)
          → (line : Text) × Contains (l ∷ ls) line × (is_comment line ≡ false) × IsText line t
      by true is o e h rest = later (rest h)
      by false is None e h rest = later (rest (sym (ap (λ (o : Option Text). list_any (bytes_eq t) (text_given o ++ flat_map text_given (texts_of ls))) e) ∙ h))
      by false is (Some s) e h rest =
          here s is e (bytes_eq t s) refl (sym (ap (λ (o : Option Text). list_any (bytes_eq t) (text_given o ++ flat_map text_given (texts_of ls))) e) ∙ h) rest

  of_line : (ls : List Text) (k : ℕ) (line : Text) → k < length ls → get_or ls k line ≡ line → is_comment line ≡ false → line_text line ≡ Some t → among ls ≡ true
  of_line [] k line lt at none e = absurd (omega (arith, lt))
  of_line (l ∷ ls) zero line lt at none e =
      let shown : is_comment l ≡ false = ap is_comment at ∙ none in
      let text : line_text l ≡ Some t = ap line_text at ∙ e in
      ap (λ (b : Bool). list_any (bytes_eq t) (flat_map text_given (map line_text (cond (not b) (l ∷ filter (λ m. not (is_comment m)) ls) (filter (λ m. not (is_comment m)) ls))))) shown
      ∙ ap (λ (o : Option Text). list_any (bytes_eq t) (text_given o ++ flat_map text_given (texts_of ls))) text
      ∙ or_left (bytes_eq t t) (among ls) ((bytes_eq-Decides t t).1 refl)
  of_line (l ∷ ls) (suc k) line lt at none e = by (is_comment l) (of_line ls k line (omega (arith, lt)) at none e)
    where
      by : (b : Bool) → among ls ≡ true
          → list_any (bytes_eq t) (flat_map text_given (map line_text (cond (not b) (l ∷ filter (λ m. not (is_comment m)) ls) (filter (λ m. not (is_comment m)) ls)))) ≡ true
      by true rest = rest
      by false rest =
          list_any-append (bytes_eq t) (text_given (line_text l)) (flat_map text_given (texts_of ls))
          ∙ or_right (list_any (bytes_eq t) (text_given (line_text l))) (among ls) rest

  by_line : (ms : List (ℕ × Option Text)) → flat_map (λ l. text_given l.1) ms ≡ flat_map text_given (map (λ l. l.1) ms)
  by_line [] = refl
  by_line (m ∷ ms) = ap (λ (us : List Text). text_given m.1 ++ us) (by_line ms)

  given_among : (n : ℕ) (ls : List Text) → list_any (bytes_eq t) (flat_map (λ l. text_given l.1) (given_from n ls)) ≡ among ls
  given_among n ls = ap (list_any (bytes_eq t)) (by_line (given_from n ls) ∙ ap (flat_map text_given) (texts_given n ls))

  pub given_by_line : (n : ℕ) (ls : List Text) → list_any (bytes_eq t) (flat_map (λ l. text_given l.1) (given_from n ls)) ≡ true
      → (line : Text) × Contains ls line × (is_comment line ≡ false) × IsText line t
  given_by_line n ls h = line_of ls (sym (given_among n ls) ∙ h)

  pub line_gives : (n : ℕ) (ls : List Text) → ((line : Text) × Contains ls line × (is_comment line ≡ false) × IsText line t)
      → list_any (bytes_eq t) (flat_map (λ l. text_given l.1) (given_from n ls)) ≡ true
  line_gives n ls w = given_among n ls ∙ of_line ls w.1.0 w.0 w.1.1 w.1.2 w.2 ((strings w.0 t).1 w.3)

-- ---- lines that are told of

module _ (texts : List Text) where
  abbrev told_from : ℕ → List Text → List ℕ
  told_from n ls = unknown_lines texts (given_from n ls)

  -- a line gives none of the texts
  abbrev pub GivesNone : Text → Type 0
  GivesNone line = (text : Text) → IsText line text → list_any (bytes_eq text) texts ≡ false

  told_step : (n : ℕ) (l : Text) (ls : List Text) (b : Bool) → is_comment l ≡ b → (c : Bool) → is_known texts (line_text l) ≡ c
      → told_from n (l ∷ ls) ≡ cond (not b && not c) (n ∷ told_from (n + 1) ls) (told_from (n + 1) ls)
  told_step n l ls true is c e = rw is refl
  told_step n l ls false is true e = rw (is, e) refl
  told_step n l ls false is false e = rw (is, e) refl

  none_given : (line : Text) (o : Option Text) → line_text line ≡ o → is_known texts o ≡ false → GivesNone line
  none_given line None e none = λ text is. absurd (apart text (sym e ∙ (strings line text).1 is))
    where
      apart : (s : Text) → None ≡ Some s → ⊥
      apart s f = cc
  none_given line (Some s) e none = λ text is.
      let same : Some s ≡ Some text = sym e ∙ (strings line text).1 is in
      ap (is_known texts) (sym same) ∙ none

  not_known : (line : Text) (o : Option Text) → line_text line ≡ o → GivesNone line → is_known texts o ≡ false
  not_known line None e h = refl
  not_known line (Some s) e h = h s ((strings line s).0 e)

  one_number : (n m : ℕ) → Contains (n ∷ []) m → n ≡ m
  one_number n m h = let zeroth : h.0 ≡ 0 = omega (arith, h.1) in subst (λ (k : ℕ). get_or (n ∷ []) k m ≡ m) zeroth h.2

  pub line_told : (n m : ℕ) (ls : List Text) → Contains (told_from n ls) m
      → (k : ℕ) × (m ≡ n + k) × (line : Text) × (slice_get ls k ≡ Some line) × (is_comment line ≡ false) × GivesNone line
  line_told n m [] h = absurd (omega (arith, h.1))
  line_told n m (l ∷ ls) h =
      by (is_comment l) refl (is_known texts (line_text l)) refl (subst (λ (ns : List ℕ). Contains ns m) (told_step n l ls (is_comment l) refl (is_known texts (line_text l)) refl) h)
      (line_told (n + 1) m ls)
    where
      Told : Type 0
      Told = (k : ℕ) × (m ≡ n + k) × (line : Text) × (slice_get (l ∷ ls) k ≡ Some line) × (is_comment line ≡ false) × GivesNone line

      later : ((k : ℕ) × (m ≡ n + 1 + k) × (line : Text) × (slice_get ls k ≡ Some line) × (is_comment line ≡ false) × GivesNone line) → Told
      later w = (suc w.0, w.1 ∙ omega arith, w.2, w.3, w.4, w.5)

      by : (b : Bool) → is_comment l ≡ b → (c : Bool) → is_known texts (line_text l) ≡ c
          → Contains (cond (not b && not c) (n ∷ told_from (n + 1) ls) (told_from (n + 1) ls)) m
          → (Contains (told_from (n + 1) ls) m → (k : ℕ) × (m ≡ n + 1 + k) × (line : Text) × (slice_get ls k ≡ Some line) × (is_comment line ≡ false) × GivesNone line)
          → Told
      by true is c e h rest = later (rest h)
      by false is true e h rest = later (rest h)
      by false is false e h rest =
          elim (Contains-append_cases (n ∷ []) (told_from (n + 1) ls) m h) [
            | inl at ↦ (zero, sym (one_number n m at) ∙ omega arith, l, refl, is, none_given l (line_text l) refl e)
            | inr there ↦ later (rest there)
          ]

  pub told_of : (n k : ℕ) (ls : List Text) (line : Text) → slice_get ls k ≡ Some line → is_comment line ≡ false → GivesNone line → Contains (told_from n ls) (n + k)
  told_of n k [] line at none h = cc
  told_of n zero (l ∷ ls) line at none h =
      let same : l ≡ line = cc in
      let shown : is_comment l ≡ false = ap is_comment same ∙ none in
      let unknown : is_known texts (line_text l) ≡ false = not_known l (line_text l) refl (subst GivesNone (sym same) h) in
      let first : n ≡ n + 0 = omega arith in
      subst (λ (m : ℕ). Contains (told_from n (l ∷ ls)) m) first
      (subst (λ (ns : List ℕ). Contains ns n) (sym (told_step n l ls false shown false unknown)) (first_there n (told_from (n + 1) ls)))
  told_of n (suc k) (l ∷ ls) line at none h =
      by (is_comment l) refl (is_known texts (line_text l)) refl (subst (λ (m : ℕ). Contains (told_from (n + 1) ls) m) (omega arith) (told_of (n + 1) k ls line at none h))
    where
      by : (b : Bool) → is_comment l ≡ b → (c : Bool) → is_known texts (line_text l) ≡ c → Contains (told_from (n + 1) ls) (n + suc k) → Contains (told_from n (l ∷ ls)) (n + suc k)
      by true is c e rest = subst (λ (ns : List ℕ). Contains ns (n + suc k)) (sym (told_step n l ls true is c e)) rest
      by false is true e rest = subst (λ (ns : List ℕ). Contains ns (n + suc k)) (sym (told_step n l ls false is true e)) rest
      by false is false e rest =
          subst (λ (ns : List ℕ). Contains ns (n + suc k)) (sym (told_step n l ls false is false e)) (rest_there n (told_from (n + 1) ls) (n + suc k) rest)

-- ---- what is told

module _ (name : Text) where
  abbrev place_of : ℕ → Text
  place_of n = name ++ codes ":" ++ decimal n

  noted_at : (ns : List ℕ) (k m : ℕ) → k < length ns → get_or ns k m ≡ m
      → (before rest : Text) × (flat_map (note name) ns ≡ before ++ (place_of m ++ codes ":" ++ rest))
  noted_at [] k m lt is = absurd (omega (arith, lt))
  noted_at (n ∷ ns) zero m lt is =
      let end : Text = codes " unread lists no such text\n" in
      let more : Text = flat_map (note name) ns in (
        [],
        end ++ more,
        ap (λ (i : ℕ). note name i ++ more) is ∙ append_assoc (place_of m) (58 ∷ end) more ∙ sym (append_assoc (place_of m) (58 ∷ []) (end ++ more)),
      )
  noted_at (n ∷ ns) (suc k) m lt is =
      let w = noted_at ns k m (omega (arith, lt)) is in (
        note name n ++ w.0,
        w.1,
        ap (λ (t : Text). note name n ++ t) w.2 ∙ sym (append_assoc (note name n) w.0 (place_of m ++ codes ":" ++ w.1)),
      )

  pub noted : (ns : List ℕ) (m : ℕ) → Contains ns m → (before rest : Text) × (flat_map (note name) ns ≡ before ++ (place_of m ++ codes ":" ++ rest))
  noted ns m h = noted_at ns h.0 m h.1 h.2
