-- The inside of a JSON string is that of the text, and no line ends within it.
use Rattle.std.proofs.Common.{◌≡◌, ℕ, zero, suc, ◌/◌, ◌%◌, ◌<◌, ◌≤◌, Bool, true, false, cond, eqb, ltb, ◌||◌, List, [], ◌∷◌, ◌++◌, length, get_or, Option, Some, None, refl, sym, ap, subst, ◌∙◌, append_assoc, arith, inl, inr}
use Rattle.std.specs.Prelude.{IsUtf8, codes, encode_utf8, encode_utf8_all, flat_map}
use Rattle.std.specs.Char.{is_control, digit_char}
use Rattle.std.specs.List.{list_any}
use Rattle.std.specs.Str.{IsAscii, chars}
use Rattle.std.proofs.lemmas.Bool.{cases_lt, ltb-true, ltb-false, eqb-true, ne_eqb, or_from, agree_below_at, false≢true}
use Rattle.std.proofs.lemmas.Bool.Decides.{nat_tests}
use Rattle.std.proofs.lemmas.List.{append-nil, append_cancel_right}
use Rattle.std.proofs.lemmas.List.Folds.{list_any-append}
use Rattle.std.proofs.lemmas.Str.{encode_ascii, encodes-chars, inside_one, IsUtf8-from_ascii, is_utf8-from_IsUtf8}
use Rattle.fhir_json.specs.Tree.{Text, string}
use Rattle.fhir_json.specs.Strings.{IsText, done, plain, escape, unit, IsString, is_plain, code_unit, is_high, is_low}
use Rattle.fhir_json.specs.Compact.{escape_byte, escape_text, quoted_text}
use Rattle.fhir_json.proofs.Compacts.{spelled}
use Rattle.fhir_lines.specs.Lines.{escaped_character, escaped}
use Rattle.fhir_unread.specs.Listing.{inside_character, inside}

-- ---- texts between quotes, one behind the other

pub text_append : {v s w t : Text} → IsText v s → IsText w t → IsText (v ++ w) (s ++ t)
text_append done h = h
text_append (plain is later) h = plain is (text_append later h)
text_append {w} {t} (escape {e} {c} {v} {s} is later left right) h =
    escape is (text_append later h)
    (ap (λ (l : Text). l ++ w) left ∙ ap (λ (l : Text). 92 ∷ l) (append_assoc e v w))
    (ap (λ (l : Text). l ++ t) right ∙ append_assoc c s t)

-- ---- a character below 127

one_ascii : (c : ℕ) → c < 128 → IsAscii (c ∷ [])
one_ascii c h zero = h
one_ascii c h (suc i) = omega arith

quoted_same : (v w : Text) → 34 ∷ (v ++ 34 ∷ []) ≡ 34 ∷ (w ++ 34 ∷ []) → v ≡ w
quoted_same v w e = let rest : v ++ 34 ∷ [] ≡ w ++ 34 ∷ [] = cc in append_cancel_right v w (34 ∷ []) rest

one_escaped : (c : ℕ) → escape_text (c ∷ []) ≡ escape_byte c
unfolding escape_text
one_escaped c = append-nil (escape_byte c)

byte_inside : (c : ℕ) → c < 128 → IsText (escape_byte c) (c ∷ [])
byte_inside c h =
    let s : IsString (c ∷ []) (quoted_text (c ∷ [])) = spelled (string (c ∷ [])) (is_utf8-from_IsUtf8 (c ∷ []) (IsUtf8-from_ascii (c ∷ []) (one_ascii c h))) in
    subst (λ (v : Text). IsText v (c ∷ [])) (sym (quoted_same (escape_text (c ∷ [])) s.0 s.1) ∙ one_escaped c) s.2

-- ---- a control character

abbrev coded : ℕ → Text
coded c = codes "\\u00" ++ digit_char (c / 16) ∷ digit_char (c % 16) ∷ []

abbrev is_some_of : ℕ → Option ℕ → Bool
is_some_of b (Some u) = eqb u b
is_some_of b None = false

some_from : (b : ℕ) (o : Option ℕ) → is_some_of b o ≡ true → o ≡ Some b
some_from b (Some u) h = ap (λ (x : ℕ). Some x) (eqb-true u b h)
some_from b None h = absurd (false≢true h)

control_code : (c : ℕ) → c < 160 → code_unit 48 48 (digit_char (c / 16)) (digit_char (c % 16)) ≡ Some c
control_code c h = some_from c _ (agree_below_at (λ x. is_some_of x (code_unit 48 48 (digit_char (x / 16)) (digit_char (x % 16)))) (λ _. true) 160 c refl h)

control_inside : (c : ℕ) → c < 160 → IsText (coded c) (encode_utf8 c)
control_inside c h =
    escape {e = 117 ∷ 48 ∷ 48 ∷ digit_char (c / 16) ∷ digit_char (c % 16) ∷ []} {c = encode_utf8 c} {v = []} {s = []}
    (unit (control_code c h) (agree_below_at is_high (λ _. false) 160 c refl h) (agree_below_at is_low (λ _. false) 160 c refl h) refl) done refl
    (sym (append-nil (encode_utf8 c)))

control_low : (c : ℕ) → is_control c ≡ true → c < 160
control_low c h = grind (arith, nat_tests)

-- ---- any other character

abbrev AreHigh : Text → Type 0
AreHigh bs = (k : ℕ) → k < length bs → 128 ≤ get_or bs k 0

high_bytes : (c : ℕ) → 128 ≤ c → AreHigh (encode_utf8 c)
high_bytes c h k l =
    elim (cases_lt (get_or (encode_utf8 c) k 0) 128) [
      | inl low ↦ let is : c ≡ get_or (encode_utf8 c) k 0 = inside_one c [] (encode_utf8 c) k (sym (append-nil (encode_utf8 c))) l low in absurd (omega arith)
      | inr high ↦ high
    ]

high_rest : (b : ℕ) (bs : Text) → AreHigh (b ∷ bs) → AreHigh bs
high_rest b bs h k l = h (suc k) (omega arith)

high_plain : (b : ℕ) → 128 ≤ b → is_plain b ≡ true
high_plain b h = grind (arith, nat_tests)

high_inside : (bs : Text) → AreHigh bs → IsText bs bs
high_inside [] h = done
high_inside (b ∷ bs) h = plain (high_plain b (h 0 (omega arith))) (high_inside bs (high_rest b bs h))

high_character : (c : ℕ) → 127 ≤ c → is_control c ≡ false → 128 ≤ c
high_character c h other = grind (arith, nat_tests)

-- ---- all characters

character_inside : (c : ℕ) → IsText (inside_character c) (encode_utf8 c)
character_inside c = by (ltb c 127) refl (is_control c) refl
  where
    by : (b : Bool) → ltb c 127 ≡ b → (d : Bool) → is_control c ≡ d → IsText (cond b (escape_byte c) (cond d (coded c) (encode_utf8 c))) (encode_utf8 c)
    by true low d is =
        let lt : c < 128 = omega (arith, ltb-true c 127 low) in
        subst (IsText (escape_byte c)) (sym (encode_ascii c lt)) (byte_inside c lt)
    by false high true is = control_inside c (control_low c is)
    by false high false is = high_inside (encode_utf8 c) (high_bytes c (high_character c (ltb-false c 127 high) is))

all_inside : (cs : List ℕ) → IsText (flat_map inside_character cs) (encode_utf8_all cs)
all_inside [] = done
all_inside (c ∷ cs) = text_append (character_inside c) (all_inside cs)

pub text_inside : (t : Text) → IsUtf8 t → IsText (inside t) t
text_inside t u = subst (IsText (inside t)) (encodes-chars t u) (all_inside (chars t))

-- ---- where lines end

abbrev pub is_end : ℕ → Bool
is_end b = eqb b 10 || eqb b 13

-- no line feed and no carriage return
abbrev pub HasNoEnd : Text → Type 0
HasNoEnd bs = list_any is_end bs ≡ false

pub no_end-append : (xs ys : Text) → HasNoEnd xs → HasNoEnd ys → HasNoEnd (xs ++ ys)
no_end-append xs ys a b = list_any-append is_end xs ys ∙ or_from (list_any is_end xs) (list_any is_end ys) a b

no_end-all : (f : ℕ → Text) → ((c : ℕ) → HasNoEnd (f c)) → (cs : List ℕ) → HasNoEnd (flat_map f cs)
no_end-all f h [] = refl
no_end-all f h (c ∷ cs) = no_end-append (f c) (flat_map f cs) (h c) (no_end-all f h cs)

high_no_end : (bs : Text) → AreHigh bs → HasNoEnd bs
high_no_end [] h = refl
high_no_end (b ∷ bs) h =
    let high : 128 ≤ b = h 0 (omega arith) in
    or_from (is_end b) (list_any is_end bs)
    (or_from (eqb b 10) (eqb b 13) (ne_eqb b 10 (λ (is : b ≡ 10). absurd (omega arith))) (ne_eqb b 13 (λ (is : b ≡ 13). absurd (omega arith))))
    (high_no_end bs (high_rest b bs h))

control_no_end : (c : ℕ) → c < 160 → HasNoEnd (coded c)
control_no_end c h = agree_below_at (λ x. list_any is_end (coded x)) (λ _. false) 160 c refl h

low_no_end : (c : ℕ) → c < 128 → HasNoEnd (escape_byte c)
low_no_end c h = agree_below_at (λ x. list_any is_end (escape_byte x)) (λ _. false) 128 c refl h

shown_no_end : (c : ℕ) → c < 128 → is_control c ≡ false → HasNoEnd (c ∷ [])
shown_no_end c h is = grind (arith, nat_tests)

escaped_no_end : (c : ℕ) → HasNoEnd (escaped_character c)
escaped_no_end c = by (is_control c) refl
  where
    by : (d : Bool) → is_control c ≡ d → HasNoEnd (cond d (coded c) (encode_utf8 c))
    by true is = control_no_end c (control_low c is)
    by false is =
        elim (cases_lt c 128) [
          | inl low ↦ subst HasNoEnd (sym (encode_ascii c low)) (shown_no_end c low is)
          | inr high ↦ high_no_end (encode_utf8 c) (high_bytes c high)
        ]

character_no_end : (c : ℕ) → HasNoEnd (inside_character c)
character_no_end c = by (ltb c 127) refl
  where
    by : (b : Bool) → ltb c 127 ≡ b → HasNoEnd (cond b (escape_byte c) (escaped_character c))
    by true low = low_no_end c (omega (arith, ltb-true c 127 low))
    by false high = escaped_no_end c

pub comment_no_end : (t : Text) → HasNoEnd (codes "# " ++ escaped t)
comment_no_end t = no_end-append (codes "# ") (escaped t) refl (no_end-all escaped_character escaped_no_end (chars t))

pub inside_no_end : (t : Text) → HasNoEnd (inside t)
inside_no_end t = no_end-all inside_character character_no_end (chars t)
