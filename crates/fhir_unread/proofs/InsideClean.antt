-- No control character stands in the inside of a JSON string.
use Rattle.std.proofs.Common.{◌≡◌, ◌<◌, ℕ, zero, suc, List, [], ◌∷◌, ◌++◌, filter, flat_map, Bool, true, false, cond, not, ◌&&◌, ltb, IsUtf8, encode_utf8, refl, sym, ap, ap₂, subst, ◌∙◌, append-nil, arith}
use Rattle.std.specs.Char.{is_control}
use Rattle.std.specs.List.{list_all}
use Rattle.std.specs.Str.{IsAscii, chars}
use Rattle.std.proofs.lemmas.Bool.{and_parts, and_from, agree_below_at, ltb-true}
use Rattle.std.proofs.lemmas.Bool.Decides.{nat_tests}
use Rattle.std.proofs.lemmas.List.Elements.{filter-append}
use Rattle.std.proofs.lemmas.Str.{IsUtf8-append, IsUtf8-from_ascii, chars-nil, chars-append, chars-encodes, scalars-chars, encode_ascii}
use lib.Utf8.{scalar, scalars}
use Rattle.fhir_json.specs.Tree.{Text}
use Rattle.fhir_json.specs.Compact.{escape_byte}
use Rattle.fhir_lines.specs.Lines.{escaped_character, escaped}
use Rattle.fhir_lines.proofs.Shown.{escaped_clean}
use Rattle.fhir_unread.specs.Listing.{inside_character, inside}

abbrev IsClean : Text → Type 0
IsClean w = IsUtf8 w × (filter is_control (chars w) ≡ [])

clean_nil : IsClean []
clean_nil = (([], (refl, refl)), ap (filter is_control) chars-nil)

clean-append : (v w : Text) → IsClean v → IsClean w → IsClean (v ++ w)
clean-append v w a b = (
  IsUtf8-append v w a.0 b.0,
  ap (filter is_control) (chars-append v w a.0)
      ∙ filter-append is_control (chars v) (chars w)
      ∙ ap₂ (λ (xs ys : List ℕ). xs ++ ys) a.1 b.1,
)

-- ---- a character below 127

abbrev is_shown : ℕ → Bool
is_shown b = ltb b 128 && not (is_control b)

low_scalar : (b : ℕ) → b < 128 → scalar b ≡ true
low_scalar b h = grind (arith, nat_tests)

one_ascii : (b : ℕ) → b < 128 → IsAscii (b ∷ [])
one_ascii b h zero = h
one_ascii b h (suc i) = omega arith

one_char : (b : ℕ) → b < 128 → chars (b ∷ []) ≡ b ∷ []
one_char b h =
    ap chars (sym (append-nil (encode_utf8 b) ∙ encode_ascii b h)) ∙ chars-encodes (b ∷ []) (and_from (scalar b) true (low_scalar b h) refl)

not_control : (b : ℕ) → not (is_control b) ≡ true → filter is_control (b ∷ []) ≡ []
not_control b h = by (is_control b) h
  where
    by : (c : Bool) → not c ≡ true → cond c (b ∷ []) [] ≡ []
    by true h = cc
    by false h = refl

shown_clean : (bs : Text) → list_all is_shown bs ≡ true → IsClean bs
shown_clean [] h = clean_nil
shown_clean (b ∷ bs) h =
    let both = and_parts (is_shown b) (list_all is_shown bs) h in
    let own = and_parts (ltb b 128) (not (is_control b)) both.0 in
    let low : b < 128 = ltb-true b 128 own.0 in
    clean-append (b ∷ []) bs
    (IsUtf8-from_ascii (b ∷ []) (one_ascii b low), ap (filter is_control) (one_char b low) ∙ not_control b own.1)
    (shown_clean bs both.1)

low_clean : (c : ℕ) → c < 127 → IsClean (escape_byte c)
low_clean c h = shown_clean (escape_byte c) (agree_below_at (λ x. list_all is_shown (escape_byte x)) (λ _. true) 127 c refl h)

-- ---- any character

high_clean : (c : ℕ) → scalar c ≡ true → IsClean (escaped_character c)
high_clean c h =
    let one : scalars (c ∷ []) ≡ true = and_from (scalar c) true h refl in
    let text : IsUtf8 (encode_utf8 c) = (c ∷ [], (one, append-nil (encode_utf8 c))) in
    let its : chars (encode_utf8 c) ≡ c ∷ [] = ap chars (sym (append-nil (encode_utf8 c))) ∙ chars-encodes (c ∷ []) one in
    let same : escaped (encode_utf8 c) ≡ escaped_character c = ap (flat_map escaped_character) its ∙ append-nil (escaped_character c) in
    subst IsClean same (escaped_clean (encode_utf8 c) text)

character_clean : (c : ℕ) → scalar c ≡ true → IsClean (inside_character c)
character_clean c h = by (ltb c 127) refl
  where
    by : (b : Bool) → ltb c 127 ≡ b → IsClean (cond b (escape_byte c) (escaped_character c))
    by true low = low_clean c (ltb-true c 127 low)
    by false high = high_clean c h

all_clean : (cs : List ℕ) → scalars cs ≡ true → IsClean (flat_map inside_character cs)
all_clean [] h = clean_nil
all_clean (c ∷ cs) h =
    let both = and_parts (scalar c) (scalars cs) h in
    clean-append (inside_character c) (flat_map inside_character cs) (character_clean c both.0) (all_clean cs both.1)

pub inside_clean : (t : Text) → IsUtf8 t → filter is_control (chars (inside t)) ≡ []
inside_clean t u = (all_clean (chars t) (scalars-chars t u)).1
