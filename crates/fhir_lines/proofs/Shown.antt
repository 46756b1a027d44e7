-- A report by its characters.
use Rattle.std.proofs.Common.{◌≡◌, ◌<◌, ℕ, suc, ◌/◌, ◌%◌, List, [], ◌∷◌, ◌++◌, length, filter, flat_map, replicate, Bool, true, false, cond, ◌&&◌, All, IsUtf8, encode_utf8, codes, refl, sym, ap, ap₂, ◌∙◌, append-nil, arith}
use Rattle.std.proofs.lemmas.Bool.Decides.{nat_tests}
use Rattle.std.proofs.lemmas.List.Elements.{filter-append}
use Rattle.std.proofs.lemmas.Str.{IsUtf8-append, chars-nil, chars-append, chars-encodes, scalars-chars, encode_ascii, encodes-append}
use Rattle.std.specs.Char.{is_control, digit_char}
use Rattle.std.specs.Str.{chars}
use lib.Utf8.{scalar, scalars, encode, encodes}
use Rattle.fhir_words.specs.declared.request.Format.{Format}
use Rattle.fhir_lines.specs.Lines.{LineValue, escaped_character, escaped, row_text, row, rows}

-- the characters that stand for one
abbrev shown : ℕ → List ℕ
shown c = cond (is_control c) (92 ∷ 117 ∷ 48 ∷ 48 ∷ digit_char (c / 16) ∷ digit_char (c % 16) ∷ []) (c ∷ [])

hex : (d : ℕ) → d < 16 → (digit_char d < 128) × (is_control (digit_char d) ≡ false) × (scalar (digit_char d) ≡ true)
hex d small = grind (arith, nat_tests)

control_below : (c : ℕ) → is_control c ≡ true → c < 160
control_below c is = grind (arith, nat_tests)

both_left : (a b : Bool) → (a && b) ≡ true → a ≡ true
both_left true b is = refl
both_left false b is = cc

both_right : (a b : Bool) → (a && b) ≡ true → b ≡ true
both_right true b is = is
both_right false b is = cc

-- those of a control character
abbrev six : ℕ → List ℕ
six c = 92 ∷ 117 ∷ 48 ∷ 48 ∷ digit_char (c / 16) ∷ digit_char (c % 16) ∷ []

six_encoded : (a b : ℕ) → a < 128 → b < 128 → encodes (92 ∷ 117 ∷ 48 ∷ 48 ∷ a ∷ b ∷ []) ≡ 92 ∷ 117 ∷ 48 ∷ 48 ∷ a ∷ b ∷ []
unfolding encode
six_encoded a b of_a of_b =
    ap (λ (xs : List ℕ). 92 ∷ 117 ∷ 48 ∷ 48 ∷ xs)
    (ap₂ (λ (xs ys : List ℕ). xs ++ (ys ++ [])) (encode_ascii a of_a) (encode_ascii b of_b))

-- of one character: how its text is encoded, that it is text, and that none of it is a control character
record IsShown (c : ℕ) (cs bs : List ℕ) : Type 0 where
  pub encoded : encodes cs ≡ bs
  pub text : (ds : List ℕ) → scalars ds ≡ true → scalars (cs ++ ds) ≡ true
  pub clean : filter is_control cs ≡ []

shown_by : (b : Bool) (c : ℕ) → is_control c ≡ b → scalar c ≡ true
    → IsShown c (cond b (six c) (c ∷ [])) (cond b (codes "\\u00" ++ digit_char (c / 16) ∷ digit_char (c % 16) ∷ []) (encode_utf8 c))
shown_by true c is of_c =
    let high = hex (c / 16) (grind (arith, control_below c is)) in
    let low = hex (c % 16) (omega arith) in
    record {
      encoded = six_encoded (digit_char (c / 16)) (digit_char (c % 16)) high.0 low.0;
      text = λ ds of_ds. ap₂ (λ (a b : Bool). a && (b && scalars ds)) high.2 low.2 ∙ of_ds;
      clean =
          ap₂ (λ (a b : Bool). cond a (digit_char (c / 16) ∷ cond b (digit_char (c % 16) ∷ []) []) (cond b (digit_char (c % 16) ∷ []) [])) high.1 low.1;
    }
shown_by false c is of_c =
    record { encoded = append-nil (encode_utf8 c); text = λ ds of_ds. ap₂ (λ (a b : Bool). a && b) of_c of_ds; clean = ap (λ (b : Bool). cond b (c ∷ []) []) is }

is_shown : (c : ℕ) → scalar c ≡ true → IsShown c (shown c) (escaped_character c)
is_shown c of_c = shown_by (is_control c) c refl of_c

-- of a text's characters
each_shown : (cs : List ℕ) → scalars cs ≡ true
    → (encodes (flat_map shown cs) ≡ flat_map escaped_character cs) × (scalars (flat_map shown cs) ≡ true)
    × (filter is_control (flat_map shown cs) ≡ [])
each_shown [] all = (refl, refl, refl)
each_shown (c ∷ cs) all =
    let of_c : scalar c ≡ true = both_left (scalar c) (scalars cs) all in
    let rest = each_shown cs (both_right (scalar c) (scalars cs) all) in
    let one = is_shown c of_c in (
      encodes-append (shown c) (flat_map shown cs) ∙ ap₂ (λ (xs ys : List ℕ). xs ++ ys) one.encoded rest.0,
      one.text (flat_map shown cs) rest.1,
      filter-append is_control (shown c) (flat_map shown cs) ∙ ap₂ (λ (xs ys : List ℕ). xs ++ ys) one.clean rest.2,
    )

-- no control character is in an escaped text, which is a text
pub escaped_clean : (text : List ℕ) → IsUtf8 text → IsUtf8 (escaped text) × (filter is_control (chars (escaped text)) ≡ [])
escaped_clean text is =
    let all = each_shown (chars text) (scalars-chars text is) in
    let cs = flat_map shown (chars text) in (
      (cs, (all.1, all.0)),
      ap (λ (bs : List ℕ). filter is_control (chars bs)) (sym all.0) ∙ ap (filter is_control) (chars-encodes cs all.1) ∙ all.2,
    )

line_feed_alone : filter is_control (chars (codes "\n")) ≡ 10 ∷ []
unfolding chars
line_feed_alone = refl

line_feed_is_text : IsUtf8 (codes "\n")
unfolding encode
line_feed_is_text = (10 ∷ [], (refl, refl))

-- a row has one control character, the line feed at its end
row_clean : (format : Format) (l : LineValue) → IsUtf8 (row_text format l)
    → IsUtf8 (row format l) × (filter is_control (chars (row format l)) ≡ 10 ∷ [])
row_clean format l is =
    let text = escaped_clean (row_text format l) is in (
      IsUtf8-append (escaped (row_text format l)) (codes "\n") text.0 line_feed_is_text,
      ap (filter is_control) (chars-append (escaped (row_text format l)) (codes "\n") text.0)
          ∙ filter-append is_control (chars (escaped (row_text format l))) (chars (codes "\n"))
          ∙ ap₂ (λ (xs ys : List ℕ). xs ++ ys) text.1 line_feed_alone,
    )

pub rows_clean : (format : Format) (ls : List LineValue) → All (λ l. IsUtf8 (row_text format l)) ls
    → filter is_control (chars (rows format ls)) ≡ replicate (length ls) 10
rows_clean format [] all = ap (filter is_control) chars-nil
rows_clean format (l ∷ ls) all =
    let one = row_clean format l (all 0 l (omega arith)) in
    ap (filter is_control) (chars-append (row format l) (rows format ls) one.0)
    ∙ filter-append is_control (chars (row format l)) (chars (rows format ls))
    ∙ ap₂ (λ (xs ys : List ℕ). xs ++ ys) one.1 (rows_clean format ls (λ k d less. all (suc k) d (omega (arith, less))))
