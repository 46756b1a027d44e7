-- A text is among those of the unread rules exactly where an element carries a rule with it.
use Rattle.std.proofs.Common.{◌≡◌, ℕ, Bool, true, false, cond, not, ◌&&◌, ◌||◌, List, [], ◌∷◌, map, filter, drop, get_or, refl, sym, ap, ◌∙◌, arith}
use Rattle.std.specs.Prelude.{is_some, count_by}
use Rattle.std.specs.Option.{option_map_or}
use Rattle.std.specs.List.{list_any}
use Rattle.std.specs.Str.{bytes_eq}
use Rattle.std.proofs.lemmas.Slice.Eq.{bytes_eq-Decides}
use Rattle.fhir_json.specs.Tree.{Text}
use Rattle.fhir_facets.specs.Unread.{unread_text}
use Rattle.fhir_findings.specs.Carrying.{Carried, rule, base, Carrier, text_of, carried_text}
use Rattle.fhir_findings.specs.Firsts.{have_one_text, firsts}
use Rattle.fhir_findings.specs.Once.{Told, told_once}
use Rattle.fhir_unread.specs.Unread.{rule_in, is_rule, given_text}

-- ---- items of which those of one text pass or fail together

module _ {A : Type 0} (text : A → Text) (p : A → Bool) (same : (x y : A) → text x ≡ text y → p x ≡ p y) where
  -- those of a text that fails are left out
  left_out : (x : A) → p x ≡ false → (ys : List A) → list_any p (filter (λ y. not (have_one_text text x y)) ys) ≡ list_any p ys
  left_out x fails [] = refl
  left_out x fails (y ∷ ys) = by (have_one_text text x y) refl (left_out x fails ys)
    where
      by : (b : Bool) → have_one_text text x y ≡ b → list_any p (filter (λ y. not (have_one_text text x y)) ys) ≡ list_any p ys
          → list_any p (cond (not b) (y ∷ filter (λ y. not (have_one_text text x y)) ys) (filter (λ y. not (have_one_text text x y)) ys)) ≡ (p y || list_any p ys)
      by true is rest =
          let fails_too : p y ≡ false = sym (same x y ((bytes_eq-Decides (text x) (text y)).0 is)) ∙ fails in
          rest ∙ sym (ap (λ (b : Bool). b || list_any p ys) fails_too)
      by false is rest = ap (λ (b : Bool). p y || b) rest

  pub any_first : (xs : List A) → list_any p (firsts text xs) ≡ list_any p xs
  any_first [] = refl
  any_first (x ∷ xs) = by (p x) refl (any_first xs)
    where
      by : (b : Bool) → p x ≡ b → list_any p (firsts text xs) ≡ list_any p xs → (p x || list_any p (filter (λ y. not (have_one_text text x y)) (firsts text xs))) ≡ (p x || list_any p xs)
      by true is rest = rw is refl
      by false is rest = ap (λ (b : Bool). p x || b) (left_out x is (firsts text xs) ∙ rest)

-- ---- the texts of some items that pass

any_given : {T : Type 0} (t : Text) (given : T → Text) (p : T → Bool) (ts : List T)
    → list_any (bytes_eq t) (map given (filter p ts)) ≡ list_any (λ o. p o && bytes_eq t (given o)) ts
any_given t given p [] = refl
any_given {T} t given p (o ∷ os) = by (p o) (any_given t given p os)
  where
    by : (b : Bool) → list_any (bytes_eq t) (map given (filter p os)) ≡ list_any (λ (o : T). p o && bytes_eq t (given o)) os
        → list_any (bytes_eq t) (map given (cond b (o ∷ filter p os) (filter p os)))
        ≡ ((b && bytes_eq t (given o)) || list_any (λ (o : T). p o && bytes_eq t (given o)) os)
    by true rest = ap (λ (b : Bool). bytes_eq t (given o) || b) rest
    by false rest = rest

any_told : {A : Type 0} (p : A → Bool) (count : A → ℕ) (xs : List A)
    → list_any (λ o. p o.first) (map (λ x. let told : Told A = record { first = x; count = count x } in told) xs) ≡ list_any p xs
any_told p count [] = refl
any_told p count (x ∷ xs) = ap (λ (b : Bool). p x || b) (any_told p count xs)

-- ---- rules

-- the carried is a rule with this text
abbrev pub gives : Text → Carrier → Bool
gives t c = is_rule c && bytes_eq t (given_text c)

pub same_given : (t : Text) (x y : Carried) → carried_text x ≡ carried_text y
    → (is_some (rule_in x) && bytes_eq t (option_map_or unread_text (rule_in x) []))
    ≡ (is_some (rule_in y) && bytes_eq t (option_map_or unread_text (rule_in y) []))
same_given t (rule u) (rule v) e = ap (λ (w : Text). bytes_eq t (drop 7 w)) e
same_given t (rule u) (base canonical) e = absurd (omega (arith, ap (λ (w : Text). get_or w 0 0) e))
same_given t (base canonical) (rule v) e = absurd (omega (arith, ap (λ (w : Text). get_or w 0 0) e))
same_given t (base one) (base other) e = refl

pub once : (cs : List Carrier) (t : Text)
    → list_any (bytes_eq t) (map (λ o. given_text o.first) (filter (λ o. is_rule o.first) (told_once text_of cs))) ≡ list_any (gives t) cs
once cs t =
    any_given t (λ (o : Told Carrier). given_text o.first) (λ (o : Told Carrier). is_rule o.first) (told_once text_of cs)
    ∙ any_told (gives t) (λ (x : Carrier). count_by (have_one_text text_of x) cs) (firsts text_of cs)
    ∙ any_first text_of (gives t) (λ x y e. same_given t x.carried y.carried e) cs
