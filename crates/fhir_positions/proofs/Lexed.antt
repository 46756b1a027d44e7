-- How the parts of a JSON text are passed.
use Rattle.std.proofs.Common.{◌≡◌, ℕ, ◌+◌, ◌<◌, Bool, true, false, cond, eqb, ◌&&◌, ◌||◌, List, [], ◌∷◌, ◌++◌, length, take, drop, get_or, Option, Some, None, refl, sym, ap, subst}
use Rattle.std.proofs.Common.{◌∙◌, append_assoc}
use Rattle.std.specs.List.{AllByRecursion}
use Rattle.std.specs.Char.{is_ascii_digit, is_digit as is_digit_of}
use Rattle.std.proofs.lemmas.Bool.{and_parts, ne_eqb, true≢false}
use Rattle.std.proofs.lemmas.List.{append-nil, take_more, drop_more}
use Rattle.fhir_json.specs.Bytes.{is_blank}
use Rattle.fhir_json.specs.Grammar.{AreBlanks}
use Rattle.fhir_json.specs.Number.{IsNumber}
use Rattle.fhir_json.specs.Strings.{code_unit, IsEscape, short, unit, pair, IsText, done, plain, escape, IsString}
use Rattle.fhir_json.proofs.Texts.{plain_is}
use Rattle.fhir_json.proofs.Numbers.{number_all}
use Rattle.fhir_json.proofs.Again.{number_begins}
use Rattle.fhir_json.specs.declared.position.Position.{Position}
use Rattle.fhir_positions.specs.declared.values.Inside.{Inside}
use Rattle.fhir_positions.specs.declared.values.Inside.TheVariants.{Between, Word, Text, Escape}
use Rattle.fhir_positions.specs.declared.values.Kind.TheVariants.{Blank, Colon, End, Opening, Other}
use Rattle.fhir_positions.specs.Positions.{behind_front}
use Rattle.fhir_positions.specs.Lexing.{Seen, kind_of, text_behind, passed, lexed}

-- ---- steps

-- one byte more of a text
pub one_byte : (s : Seen) (text : List ℕ) (i : ℕ) → i < length text
    → lexed s (take i text) (drop i text) ≡ lexed (passed (behind_front (take i text)) (get_or text i 0) s) (take (i + 1) text) (drop (i + 1) text)
one_byte s text i within = rw (drop_more text i 0 within, take_more text i 0 within) refl

-- one part behind another
pub lexed-append : (s : Seen) (front xs ys : List ℕ) → lexed s front (xs ++ ys) ≡ lexed (lexed s front xs) (front ++ xs) ys
lexed-append s front [] ys = ap (λ (f : List ℕ). lexed s f ys) (sym (append-nil front))
lexed-append s front (b ∷ xs) ys =
    lexed-append (passed (behind_front front) b s) (front ++ b ∷ []) xs ys
    ∙ ap (λ (f : List ℕ). lexed (lexed (passed (behind_front front) b s) (front ++ b ∷ []) xs) f ys) (append_assoc front (b ∷ []) xs)

abbrev pub at : Inside → List Position → Option Position → Seen
at inside found string = record { found = found; string = string; inside = inside }

-- nothing is begun
abbrev pub ready : List Position → Seen
ready found = at Between found None

-- ---- blanks

blank_kind : (b : ℕ) → is_blank b ≡ true → kind_of b ≡ Blank
blank_kind b h = rw h refl

pub blanks_pass : (found : List Position) (string : Option Position) (front bs : List ℕ) → AreBlanks bs
    → lexed (at Between found string) front bs ≡ at Between found string
blanks_pass found string front [] h = refl
blanks_pass found string front (b ∷ bs) h = rw (blank_kind b h.0) (blanks_pass found string (front ++ b ∷ []) bs h.1)

-- ---- words

abbrev pub AreOther : List ℕ → Type 0
AreOther bs = AllByRecursion (λ b. kind_of b ≡ Other) bs

word_passes : (found : List Position) (front bs : List ℕ) → AreOther bs → lexed (at Word found None) front bs ≡ at Word found None
word_passes found front [] h = refl
word_passes found front (b ∷ bs) h = rw h.0 (word_passes found (front ++ b ∷ []) bs h.1)

pub word_begins : (found : List Position) (front : List ℕ) (b : ℕ) (bs : List ℕ) → AreOther (b ∷ bs)
    → lexed (ready found) front (b ∷ bs) ≡ at Word (found ++ behind_front front ∷ []) None
word_begins found front b bs h = rw (h.0, append-nil found) (word_passes (found ++ behind_front front ∷ []) (front ++ b ∷ []) bs h.1)

-- a byte that passes a test which none of some bytes passes
other_kind : (test : ℕ → Bool) → test 32 ≡ false → test 9 ≡ false → test 10 ≡ false → test 13 ≡ false → test 58 ≡ false → test 44 ≡ false → test 93 ≡ false
    → test 125 ≡ false → test 91 ≡ false → test 123 ≡ false → test 34 ≡ false → test 92 ≡ false → (b : ℕ) → test b ≡ true → kind_of b ≡ Other
other_kind test x1 x2 x3 x4 x5 x6 x7 x8 x9 x10 x11 x12 b h =
    rw (
      ne_eqb b 32 (other 32 x1),
      ne_eqb b 9 (other 9 x2),
      ne_eqb b 10 (other 10 x3),
      ne_eqb b 13 (other 13 x4),
      ne_eqb b 58 (other 58 x5),
      ne_eqb b 44 (other 44 x6),
      ne_eqb b 93 (other 93 x7),
      ne_eqb b 125 (other 125 x8),
      ne_eqb b 91 (other 91 x9),
      ne_eqb b 123 (other 123 x10),
      ne_eqb b 34 (other 34 x11),
      ne_eqb b 92 (other 92 x12),
    ) refl
  where
    other : (c : ℕ) → test c ≡ false → b ≡ c → ⊥
    other c fails is = true≢false (sym h ∙ ap test is ∙ fails)

pub number_begins_at : (found : List Position) (front n : List ℕ) → IsNumber n → lexed (ready found) front n ≡ at Word (found ++ behind_front front ∷ []) None
number_begins_at found front n h =
    let first = number_begins n h in
    let digit = other_kind is_ascii_digit refl refl refl refl refl refl refl refl refl refl refl refl in
    let all = number_all (λ b. kind_of b ≡ Other) digit refl refl refl refl refl n h in
    subst (λ (v : List ℕ). lexed (ready found) front v ≡ at Word (found ++ behind_front front ∷ []) None) (sym first.2)
    (word_begins found front first.0 first.1 (subst AreOther first.2 all))

-- ---- strings

-- a byte that is no quote and no backslash stays within the string
plain_kind : (b : ℕ) → eqb b 34 ≡ false → eqb b 92 ≡ false → text_behind (kind_of b) ≡ Text
plain_kind b p q = rw (p, q) (go (is_blank b) (eqb b 58) (eqb b 44 || eqb b 93 || eqb b 125) (eqb b 91 || eqb b 123))
  where
    go : (p q r s : Bool) → text_behind (cond p Blank (cond q Colon (cond r End (cond s Opening Other)))) ≡ Text
    go true q r s = refl
    go false true r s = refl
    go false false true s = refl
    go false false false true = refl
    go false false false false = refl

hex_kind : (b : ℕ) → is_digit_of b 16 ≡ true → text_behind (kind_of b) ≡ Text
hex_kind b h = plain_kind b (ne_eqb b 34 (other 34 refl)) (ne_eqb b 92 (other 92 refl))
  where
    other : (c : ℕ) → is_digit_of c 16 ≡ false → b ≡ c → ⊥
    other c fails is = true≢false (sym h ∙ ap (λ (x : ℕ). is_digit_of x 16) is ∙ fails)

module _ (found : List Position) (string : Option Position) where
  unit_passes : (front : List ℕ) (a b c d u : ℕ) → code_unit a b c d ≡ Some u
      → lexed (at Text found string) front (a ∷ b ∷ c ∷ d ∷ []) ≡ at Text found string
  unit_passes front a b c d u e =
      let all = digits (is_digit_of a 16 && is_digit_of b 16 && is_digit_of c 16 && is_digit_of d 16) _ e in
      let three = and_parts (is_digit_of a 16 && is_digit_of b 16 && is_digit_of c 16) (is_digit_of d 16) all in
      let two = and_parts (is_digit_of a 16 && is_digit_of b 16) (is_digit_of c 16) three.0 in
      let one = and_parts (is_digit_of a 16) (is_digit_of b 16) two.0 in
      rw (hex_kind a one.0, hex_kind b one.1, hex_kind c two.1, hex_kind d three.1) refl
    where
      digits : (t : Bool) (m : ℕ) → cond t (Some m) None ≡ Some u → t ≡ true
      digits true m e = refl
      digits false m e = absurd cc

  escape_passes : {e s : List ℕ} → IsEscape e s → (front : List ℕ) → lexed (at Escape found string) front e ≡ at Text found string
  escape_passes (short {e} {c} h) front = refl
  escape_passes (unit {a} {b} {c} {d} {u} p x y is) front = unit_passes (front ++ 117 ∷ []) a b c d u p
  escape_passes (pair {a} {b} {c} {d} {e} {f} {g} {h} {high} {low} p x k y is) front =
      lexed-append (at Text found string) (front ++ 117 ∷ []) (a ∷ b ∷ c ∷ d ∷ []) (92 ∷ 117 ∷ e ∷ f ∷ g ∷ h ∷ [])
      ∙ ap (λ (s : Seen). lexed s ((front ++ 117 ∷ []) ++ (a ∷ b ∷ c ∷ d ∷ [])) (92 ∷ 117 ∷ e ∷ f ∷ g ∷ h ∷ []))
      (unit_passes (front ++ 117 ∷ []) a b c d high p)
      ∙ unit_passes ((((front ++ 117 ∷ []) ++ (a ∷ b ∷ c ∷ d ∷ [])) ++ 92 ∷ []) ++ 117 ∷ []) e f g h low k

  text_passes : {v s : List ℕ} → IsText v s → (front : List ℕ) → lexed (at Text found string) front v ≡ at Text found string
  text_passes done front = refl
  text_passes (plain {b} {v} {s} h t) front = let p = plain_is b h in rw (plain_kind b p.0 p.1) (text_passes t (front ++ b ∷ []))
  text_passes (escape {e} {c} {v} {s} {w} {t} x y is to) front =
      ap (λ (z : List ℕ). lexed (at Text found string) front z) is
      ∙ lexed-append (at Escape found string) (front ++ 92 ∷ []) e v
      ∙ ap (λ (z : Seen). lexed z ((front ++ 92 ∷ []) ++ e) v) (escape_passes x (front ++ 92 ∷ []))
      ∙ text_passes y ((front ++ 92 ∷ []) ++ e)

pub string_begins : (found : List Position) (front s v : List ℕ) → IsString s v → lexed (ready found) front v ≡ at Between found (Some (behind_front front))
string_begins found front s v h =
    let here = behind_front front in
    ap (λ (z : List ℕ). lexed (ready found) front z) h.1
    ∙ ap (λ (f : List Position). lexed (at Text f (Some here)) (front ++ 34 ∷ []) (h.0 ++ 34 ∷ [])) (append-nil found)
    ∙ lexed-append (at Text found (Some here)) (front ++ 34 ∷ []) h.0 (34 ∷ [])
    ∙ ap (λ (z : Seen). lexed z ((front ++ 34 ∷ []) ++ h.0) (34 ∷ [])) (text_passes found (Some here) h.2 (front ++ 34 ∷ []))
