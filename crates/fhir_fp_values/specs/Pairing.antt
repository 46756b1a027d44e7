-- Children in the order of their names, and pair by pair (used by private contracts alone).
use Rattle.std.specs.Prelude.{◌≡◌, ℕ, suc, ◌+◌, true, false, Some, List, [], ◌∷◌, map}
use Rattle.std.specs.Cmp.Lexicographic.{slice_cmp}
use Rattle.std.specs.List.{AllByRecursion, sum_by}
use Rattle.std.specs.Ordering.{is_lt, nat_cmp}
use Rattle.fhir_instance.specs.Items.{Item, item, Kids, no_kids, kid, Named}
use Rattle.fhir_instance.specs.View.{named_of}
use Rattle.fhir_fp_values.specs.declared.equality.KidRef.{KidRef}
use Rattle.fhir_fp_values.specs.Equality.{Kleene, kleene_and, if_same, equal}

abbrev pub kids_seen : List KidRef → List Named
kids_seen ks = map (λ k. named_of k.kid.now) ks

-- no name is less than one before it
abbrev pub Ascends : List Named → Type 0
Ascends [] = Unit {0}
Ascends (k ∷ ks) = AllByRecursion (λ l. is_lt (slice_cmp nat_cmp l.0 k.0) ≡ false) ks × Ascends ks

-- they are as many, and each has the name of its fellow and is equal to it
abbrev pub pairwise : List Named → List Named → Kleene
pairwise [] [] = Some true
pairwise [] (l ∷ ls) = Some false
pairwise (k ∷ ks) [] = Some false
pairwise (k ∷ ks) (l ∷ ls) = kleene_and (if_same k.0 l.0 (equal k.1 l.1)) (pairwise ks ls)

-- ---- how high items are

abbrev mutual
  pub height : Item → ℕ
  height (item type json ks) = suc (heights ks)

  pub heights : Kids → ℕ
  heights no_kids = 0
  heights (kid n x ks) = height x + heights ks

abbrev pub heights_seen : List KidRef → ℕ
heights_seen ks = sum_by (λ k. height (named_of k.kid.now).1) ks
