-- Texts without some of the ASCII characters up to `>`.
use Rattle.std.proofs.Common.{◌≡◌, ◌<◌, ◌+◌, ℕ, List, [], ◌∷◌, ◌++◌, ◌/◌, ◌%◌, filter, Bool, true, false, cond, encode_utf8, refl, ap, ap₂, ◌∙◌, arith}
use Rattle.std.proofs.lemmas.List.Elements.{filter-append}
use Rattle.std.specs.Char.{digit_char}
use lib.Utf8.{encode, next}
use lib.Dec.{ltb}
use Rattle.fhir_json.specs.Tree.{Text}
use Rattle.fhir_markup.specs.Markup.{coded, is_coded, plain_character}

abbrev pub Without : (ℕ → Bool) → Text → Type 0
Without p text = filter p text ≡ []

-- none of those characters is a digit, or the first of a longer code
pub record IsLow (p : ℕ → Bool) : Type 0 where
  pub above : (x : ℕ) → 62 < x → p x ≡ false
  pub digit : (d : ℕ) → p (digit_char d) ≡ false

pub both : (p : ℕ → Bool) (xs ys : Text) → Without p xs → Without p ys → Without p (xs ++ ys)
both p xs ys of_xs of_ys = filter-append p xs ys ∙ ap₂ (λ (a b : List ℕ). a ++ b) of_xs of_ys

pub either : (p : ℕ → Bool) (b : Bool) (xs ys : Text) → (b ≡ true → Without p xs) → (b ≡ false → Without p ys) → Without p (cond b xs ys)
either p true xs ys of_xs of_ys = of_xs refl
either p false xs ys of_xs of_ys = of_ys refl

pub skip : (p : ℕ → Bool) (x : ℕ) (xs : Text) → p x ≡ false → Without p xs → Without p (x ∷ xs)
skip p x xs of_x of_xs = ap (λ (b : Bool). cond b (x ∷ filter p xs) (filter p xs)) of_x ∙ of_xs

pub coded_without : (p : ℕ → Bool) → IsLow p → (c : ℕ) → Without p (coded c)
coded_without p low c =
    let a = digit_char (c / 4096 % 16) in
    let b = digit_char (c / 256 % 16) in
    let d = digit_char (c / 16 % 16) in
    let e = digit_char (c % 16) in
    let one = skip p e [] (low.digit (c % 16)) refl in
    let two = skip p d (e ∷ []) (low.digit (c / 16 % 16)) one in
    let three = skip p b (d ∷ e ∷ []) (low.digit (c / 256 % 16)) two in
    let four = skip p a (b ∷ d ∷ e ∷ []) (low.digit (c / 4096 % 16)) three in
    let five = skip p 117 (a ∷ b ∷ d ∷ e ∷ []) (low.above 117 (omega arith)) four in
    skip p 92 (117 ∷ a ∷ b ∷ d ∷ e ∷ []) (low.above 92 (omega arith)) five

-- a character that is none of them has none among its bytes in UTF-8
encoded_without : (p : ℕ → Bool) → IsLow p → (c : ℕ) → p c ≡ false → Without p (encode_utf8 c)
unfolding encode
encoded_without p low c is_none =
    let last = skip p (next c) [] (low.above (next c) (omega arith)) refl in
    let two = skip p (next (c / 64)) (next c ∷ []) (low.above (next (c / 64)) (omega arith)) last in
    let three = skip p (next (c / 4096)) (next (c / 64) ∷ next c ∷ []) (low.above (next (c / 4096)) (omega arith)) two in
    either p (ltb c 128) (c ∷ []) _ (λ is. skip p c [] is_none refl)
    (λ is. either p (ltb c 2048) _ _ (λ is. skip p (192 + c / 64) (next c ∷ []) (low.above (192 + c / 64) (omega arith)) last)
    (λ is. either p (ltb c 65536) _ _ (λ is. skip p (224 + c / 4096) (next (c / 64) ∷ next c ∷ []) (low.above (224 + c / 4096) (omega arith)) two)
    (λ is. skip p (240 + c / 262144) (next (c / 4096) ∷ next (c / 64) ∷ next c ∷ []) (low.above (240 + c / 262144) (omega arith)) three)))

pub plain_without : (p : ℕ → Bool) → IsLow p → (c : ℕ) → p c ≡ false → Without p (plain_character c)
plain_without p low c is_none =
    either p (is_coded c) (coded c) (encode_utf8 c) (λ is. coded_without p low c) (λ is. encoded_without p low c is_none)
