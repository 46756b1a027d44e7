-- Chains of bases, by powers of a step.
use Rattle.std.proofs.Common.{◌≡◌, ℕ, zero, suc, ◌+◌, ◌*◌, ◌/◌, ◌%◌, List, [], ◌∷◌, map, length, get_or, Option, None, Some, Bool, true, false, cond, not}
use Rattle.std.proofs.Common.{is_some, refl, ap, ap₂, sym, ◌∙◌, arith}
use Rattle.std.specs.Option.{option_and_then}
use Rattle.std.specs.List.{slice_get}
use Rattle.fhir_definition.specs.Definition.{Definition}
use Rattle.fhir_schema.specs.Settling.{base_place, base_of_place, ends_within, chain_ends}
use Rattle.fhir_schema.specs.Chains.{base_after, bases_after}

module _ (ds : List Definition) where
  pub after-none : (n : ℕ) → base_after ds n None ≡ None
  after-none zero = refl
  after-none (suc n) = after-none n

  -- a chain ends within so many steps where none is left after them
  pub ends-after : (n : ℕ) (place : Option ℕ) → not (is_some (base_after ds n place)) ≡ ends_within ds n place
  ends-after n None = ap (λ (o : Option ℕ). not (is_some o)) (after-none n)
  ends-after zero (Some p) = refl
  ends-after (suc n) (Some p) = ends-after n (base_of_place ds p)

  -- steps after steps
  pub after-sum : (a n : ℕ) (place : Option ℕ) → base_after ds n (base_after ds a place) ≡ base_after ds (a + n) place
  after-sum zero n place = let e : n ≡ 0 + n = omega arith in ap (λ (k : ℕ). base_after ds k place) e
  after-sum (suc a) n place =
      let e : suc (a + n) ≡ suc a + n = omega arith in
      after-sum a n (option_and_then (base_of_place ds) place) ∙ ap (λ (k : ℕ). base_after ds k place) e

  listed : (f : Definition → Option ℕ) (es : List Definition) (p : ℕ) → get_or (map f es) p None ≡ option_and_then f (slice_get es p)
  listed f [] p = refl
  listed f (e ∷ es) zero = refl
  listed f (e ∷ es) (suc p) = listed f es p

  behind_base : (m : ℕ) (d : Option Definition)
      → option_and_then (λ e. base_after ds m (base_place ds e)) d ≡ base_after ds m (option_and_then (base_place ds) d)
  behind_base m None = sym (after-none m)
  behind_base m (Some d) = refl

  -- the list of where so many steps lead from each base leads one step further
  pub further : (m : ℕ) (place : Option ℕ) → option_and_then (λ p. get_or (bases_after ds m) p None) place ≡ base_after ds (suc m) place
  further m None = sym (after-none m)
  further m (Some p) = listed (λ d. base_after ds m (base_place ds d)) ds p ∙ behind_base m (slice_get ds p)

  further-each : (a m : ℕ) (es : List Definition)
      → map (option_and_then (λ p. get_or (bases_after ds m) p None)) (map (λ d. base_after ds a (base_place ds d)) es)
      ≡ map (λ d. base_after ds (a + suc m) (base_place ds d)) es
  further-each a m [] = refl
  further-each a m (e ∷ es) =
      ap₂ (λ (x : Option ℕ) (xs : List (Option ℕ)). x ∷ xs)
      (further m (base_after ds a (base_place ds e)) ∙ after-sum a (suc m) (base_place ds e))
      (further-each a m es)

  pub step_by-sum : (a m : ℕ) (places powers : List (Option ℕ)) → places ≡ bases_after ds a → powers ≡ bases_after ds m
      → map (option_and_then (λ p. get_or powers p None)) places ≡ bases_after ds (a + suc m)
  step_by-sum a m places powers places_are powers_are =
      ap₂ (λ (f : List (Option ℕ)) (xs : List (Option ℕ)). map (option_and_then (λ p. get_or f p None)) xs) powers_are places_are
      ∙ further-each a m ds

  ends-each : (n : ℕ) (es : List Definition)
      → map (λ o. not (is_some o)) (map (λ d. base_after ds n (base_place ds d)) es) ≡ map (λ d. ends_within ds n (base_place ds d)) es
  ends-each n [] = refl
  ends-each n (e ∷ es) = ap₂ (λ (x : Bool) (xs : List Bool). x ∷ xs) (ends-after n (base_place ds e)) (ends-each n es)

  pub ended : (places : List (Option ℕ)) (ends : List Bool) → places ≡ bases_after ds (length ds) → ends ≡ map (λ o. not (is_some o)) places
      → ends ≡ map (chain_ends ds) ds
  ended places ends places_are ends_are = ends_are ∙ ap (map (λ (o : Option ℕ). not (is_some o))) places_are ∙ ends-each (length ds) ds

-- ---- how many steps are left

-- after so many steps, with so many more in each of those that are left
pub record AreAfter (ds : List Definition) (places powers : List (Option ℕ)) (left : ℕ) : Type 0 where
  pub taken : ℕ
  pub power : ℕ
  pub places_are : places ≡ bases_after ds taken
  pub powers_are : powers ≡ bases_after ds power
  pub count : taken + suc power * left ≡ length ds

pub halved : (ds : List Definition) (places powers more doubled : List (Option ℕ)) (left : ℕ) (odd : Bool) → AreAfter ds places powers left
    → more ≡ cond odd (map (option_and_then (λ p. get_or powers p None)) places) places → doubled ≡ map (option_and_then (λ p. get_or powers p None)) powers
    → (odd ≡ true → left % 2 ≡ 1) → (odd ≡ false → left % 2 ≡ 0) → AreAfter ds more doubled (left / 2)
halved ds places powers more doubled left true h more_is doubled_is is_odd is_even =
    let odd : left % 2 ≡ 1 = is_odd refl in
    let whole : left ≡ 2 * (left / 2) + 1 = omega arith in
    record {
      taken = h.taken + suc h.power;
      power = h.power + suc h.power;
      places_are = more_is ∙ step_by-sum ds h.taken h.power places powers h.places_are h.powers_are;
      powers_are = doubled_is ∙ step_by-sum ds h.power h.power powers powers h.powers_are h.powers_are;
      count = omega (arith, h.count, ap (λ (n : ℕ). suc h.power * n) whole);
    }
halved ds places powers more doubled left false h more_is doubled_is is_odd is_even =
    let even : left % 2 ≡ 0 = is_even refl in
    let whole : left ≡ 2 * (left / 2) = omega arith in
    record {
      taken = h.taken;
      power = h.power + suc h.power;
      places_are = more_is ∙ h.places_are;
      powers_are = doubled_is ∙ step_by-sum ds h.power h.power powers powers h.powers_are h.powers_are;
      count = omega (arith, h.count, ap (λ (n : ℕ). suc h.power * n) whole);
    }

pub none_left : (ds : List Definition) (places powers : List (Option ℕ)) (left : ℕ) → AreAfter ds places powers left → left ≡ 0
    → places ≡ bases_after ds (length ds)
none_left ds places powers left h none =
    let all : h.taken ≡ length ds = omega (arith, h.count, ap (λ (n : ℕ). suc h.power * n) none) in
    h.places_are ∙ ap (bases_after ds) all
