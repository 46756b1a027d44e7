-- What is escaped reads as it is to be seen.
use Rattle.std.proofs.Common.{◌≡◌, ◌<◌, ℕ, List, [], ◌∷◌, ◌++◌, ◌==◌, filter, flat_map, Bool, true, false, cond, not, drop, codes, refl, sym, ap, subst, ◌∙◌, arith}
use Rattle.std.proofs.lemmas.Bool.Decides.{nat_tests}
use Rattle.std.specs.Char.{digit_char}
use Rattle.std.specs.Str.{chars}
use lib.Utf8.{encode}
use Rattle.fhir_json.specs.Tree.{Text}
use Rattle.fhir_markup.proofs.Without.{Without, IsLow, plain_without}
use Rattle.fhir_markup.specs.Markup.{plain_character, escaped_character, escaped, shown}
use Rattle.fhir_markup.specs.Reading.{read}

abbrev is_ampersand : ℕ → Bool
is_ampersand b = b == 38

above : (x : ℕ) → 62 < x → is_ampersand x ≡ false
above x more = grind (arith, nat_tests)

digit : (d : ℕ) → is_ampersand (digit_char d) ≡ false
digit d = grind (arith, nat_tests)

low : IsLow is_ampersand
low = record { above = above; digit = digit }

-- a text that begins with no reference is read as it is
abbrev is_more : List ℕ → Bool
is_more [] = false
is_more (x ∷ xs) = true

of_head : (b : Bool) (x : ℕ) (xs : Text) → cond b (x ∷ filter is_ampersand xs) (filter is_ampersand xs) ≡ []
    → (b ≡ false) × (filter is_ampersand xs ≡ [])
of_head true x xs none = (ap is_more none, ap (drop 1) none)
of_head false x xs none = (refl, none)

chosen : (b : Bool) (xs ys : Text) → b ≡ true → cond b xs ys ≡ xs
chosen b xs ys is = ap (λ (b : Bool). cond b xs ys) is

no_reference : (x : ℕ) (rest : Text) → is_ampersand x ≡ false → read (x ∷ rest) ≡ x ∷ read rest
no_reference x rest is = chosen (not (x == 38)) (x ∷ read rest) _ (ap not is)

plain_read : (xs rest : Text) → Without is_ampersand xs → read (xs ++ rest) ≡ xs ++ read rest
plain_read [] rest none = refl
plain_read (x ∷ xs) rest none =
    let parts = of_head (is_ampersand x) x xs none in
    no_reference x (xs ++ rest) parts.0 ∙ ap (λ (ys : Text). x ∷ ys) (plain_read xs rest parts.1)

-- of one character
abbrev IsRead : ℕ → Text → Text → Type 0
IsRead c written rest = read (written ++ rest) ≡ plain_character c ++ read rest

equals : (c d : ℕ) → (c == d) ≡ true → c ≡ d
equals c d is = grind (arith, nat_tests)

choose : (b : Bool) (c : ℕ) (xs ys rest : Text) → (b ≡ true → IsRead c xs rest) → (b ≡ false → IsRead c ys rest) → IsRead c (cond b xs ys) rest
choose true c xs ys rest of_xs of_ys = of_xs refl
choose false c xs ys rest of_xs of_ys = of_ys refl

at : (c d : ℕ) (written rest : Text) → IsRead d written rest → (c == d) ≡ true → IsRead c written rest
at c d written rest of_d is = subst (λ (x : ℕ). IsRead x written rest) (sym (equals c d is)) of_d

character_read : (c : ℕ) (rest : Text) → IsRead c (escaped_character c) rest
unfolding encode
character_read c rest =
    choose (c == 38) c _ _ rest (at c 38 (codes "&amp;") rest refl)
    (λ ampersand. choose (c == 60) c _ _ rest (at c 60 (codes "&lt;") rest refl)
    (λ less. choose (c == 62) c _ _ rest (at c 62 (codes "&gt;") rest refl)
    (λ greater. choose (c == 34) c _ _ rest (at c 34 (codes "&quot;") rest refl)
    (λ quote. choose (c == 39) c _ _ rest (at c 39 (codes "&#39;") rest refl)
    (λ apostrophe. plain_read (plain_character c) rest (plain_without is_ampersand low c ampersand))))))

each_read : (cs : List ℕ) → read (flat_map escaped_character cs) ≡ flat_map plain_character cs
each_read [] = refl
each_read (c ∷ cs) = character_read c (flat_map escaped_character cs) ∙ ap (λ (xs : Text). plain_character c ++ xs) (each_read cs)

pub escaped_read : (text : Text) → read (escaped text) ≡ shown text
escaped_read text = each_read (chars text)
