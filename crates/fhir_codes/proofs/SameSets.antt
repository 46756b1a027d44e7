-- Lists with the same sets have one union and one intersection.
use Rattle.std.proofs.Common.{◌≡◌, ℕ, List, [], ◌∷◌, ◌++◌, map, Bool, true, false, not, cond, ◌||◌, ◌&&◌, refl, sym, ◌∙◌, ap}
use Rattle.std.specs.List.{list_any, list_all, dedup, dedup_from}
use Rattle.std.specs.List.Sorted.{IsPermutation}
use Rattle.std.proofs.Math.Dec.{eqb}
use Rattle.std.proofs.lemmas.Bool.{eqb-true}
use Rattle.std.proofs.lemmas.List.Folds.{list_any-append}
use Rattle.std.proofs.lemmas.List.Sorted.{list_any-IsPermutation}
use Rattle.std.proofs.lemmas.Slice.Eq.{bytes_eq-Decides}
use mathlib.Core.Bool.{false≢true}
use Rattle.fhir_codes.specs.Concepts.{Concepts, union_of, common}
use Rattle.fhir_codes.specs.declared.included.Included.{Included}
use Rattle.fhir_codes.specs.declared.included.Included.TheVariants.{Shared, Own}
use Rattle.fhir_codes.specs.Tables.{SameSets, table_at, in_tables}
use Rattle.fhir_codes.specs.Including.{included, are_of_one}
use Rattle.fhir_codes.proofs.Members.{has, one_set, has-union_of, has-common}

module _ {A : Type 0} where
  pub any_map : {B : Type 0} (test : B → Bool) (f : A → B) (xs : List A) → list_any test (map f xs) ≡ list_any (λ x. test (f x)) xs
  any_map test f [] = refl
  any_map test f (x ∷ xs) = ap (λ b. test (f x) || b) (any_map test f xs)

  -- what is dropped passes a test if what is kept does
  module _ (same : A → A → Bool) (test : A → Bool) (alike : (x y : A) → same x y ≡ true → test x ≡ test y) where
    twice : (b c rest : Bool) → b ≡ c → (c || rest) ≡ (c || (b || rest))
    twice true true rest e = refl
    twice true false rest e = absurd (false≢true (sym e))
    twice false true rest e = absurd (false≢true e)
    twice false false rest e = refl

    joined : (k x : A) (xs ys zs : List A) (b : Bool) → same x k ≡ b → list_any test ys ≡ (test k || list_any test xs) → list_any test zs ≡ (test x || list_any test xs)
        → list_any test (cond b ys (k ∷ zs)) ≡ (test k || (test x || list_any test xs))
    joined k x xs ys zs true is left right = left ∙ twice (test x) (test k) (list_any test xs) (alike x k is)
    joined k x xs ys zs false is left right = ap (λ b. test k || b) right

    any_from : (k : A) (xs : List A) → list_any test (dedup_from same k xs) ≡ (test k || list_any test xs)
    any_from k [] = refl
    any_from k (x ∷ xs) = joined k x xs (dedup_from same k xs) (dedup_from same x xs) (same x k) refl (any_from k xs) (any_from x xs)

    pub any_dedup : (xs : List A) → list_any test (dedup same xs) ≡ list_any test xs
    any_dedup [] = refl
    any_dedup (x ∷ xs) = any_from x xs

all_none : (test : Concepts → Bool) (ss : List Concepts) → list_all test ss ≡ not (list_any (λ s. not (test s)) ss)
all_none test [] = refl
all_none test (s ∷ ss) = ap (λ b. test s && b) (all_none test ss) ∙ turned (test s) (list_any (λ s. not (test s)) ss)
  where
    turned : (a b : Bool) → (a && not b) ≡ not (not a || b)
    turned true b = refl
    turned false b = refl

same_all : (xs ys : List Concepts) → SameSets xs ys → (test : Concepts → Bool) → list_all test xs ≡ list_all test ys
same_all xs ys same test = all_none test xs ∙ ap not (same (λ s. not (test s))) ∙ sym (all_none test ys)

pub united_same : (xs ys : List Concepts) → SameSets xs ys → union_of xs ≡ union_of ys
united_same xs ys same = one_set (union_of xs) (union_of ys) (λ c. has-union_of xs c ∙ same (λ s. has s c) ∙ sym (has-union_of ys c))

pub common_same : (xs ys : List Concepts) → SameSets xs ys → common xs ≡ common ys
common_same [] [] same = refl
common_same [] (y ∷ ys) same = absurd (false≢true (same (λ s. true)))
common_same (x ∷ xs) [] same = absurd (false≢true (sym (same (λ s. true))))
common_same (x ∷ xs) (y ∷ ys) same =
    one_set (common (x ∷ xs)) (common (y ∷ ys)) (λ c. has-common x xs c ∙ same_all (x ∷ xs) (y ∷ ys) same (λ s. has s c) ∙ sym (has-common y ys c))

-- the same sets, with one more
pub one_more_set : (s : Concepts) (xs ys : List Concepts) → SameSets xs ys → SameSets (s ∷ xs) (s ∷ ys)
one_more_set s xs ys same test = ap (λ b. test s || b) (same test)

pub last_first : (s : Concepts) (xs : List Concepts) → SameSets (xs ++ s ∷ []) (s ∷ xs)
last_first s xs test = list_any-append test xs (s ∷ []) ∙ turned (list_any test xs) (test s)
  where
    turned : (a b : Bool) → (a || (b || false)) ≡ (b || a)
    turned true true = refl
    turned true false = refl
    turned false true = refl
    turned false false = refl

-- ---- tables by their numbers

pub distinct_numbers_same : (tables : List Concepts) (numbers sorted kept : List ℕ) → IsPermutation numbers sorted → kept ≡ dedup eqb sorted → SameSets (map (table_at tables) numbers) (map (table_at tables) kept)
distinct_numbers_same tables numbers sorted kept permuted is test =
    any_map test (table_at tables) numbers
    ∙ list_any-IsPermutation (λ n. test (table_at tables n)) numbers sorted permuted
    ∙ sym (any_dedup eqb (λ n. test (table_at tables n)) (λ m n e. ap (λ k. test (table_at tables k)) (eqb-true m n e)) sorted)
    ∙ ap (list_any (λ n. test (table_at tables n))) (sym is)
    ∙ sym (any_map test (table_at tables) kept)

same_included : (tables : List Concepts) (x y : Included) → are_of_one x y ≡ true → included tables x ≡ included tables y
same_included tables (Shared a) (Shared b) e = ap (in_tables tables) ((bytes_eq-Decides a.items b.items).0 e)
same_included tables (Shared a) (Own t) e = absurd (false≢true e)
same_included tables (Own s) (Shared b) e = absurd (false≢true e)
same_included tables (Own s) (Own t) e = absurd (false≢true e)

pub distinct_same : (tables : List Concepts) (parts sorted kept : List Included) → IsPermutation parts sorted → kept ≡ dedup are_of_one sorted → SameSets (map (included tables) parts) (map (included tables) kept)
distinct_same tables parts sorted kept permuted is test =
    any_map test (included tables) parts
    ∙ list_any-IsPermutation (λ x. test (included tables x)) parts sorted permuted
    ∙ sym (any_dedup are_of_one (λ x. test (included tables x)) (λ x y e. ap test (same_included tables x y e)) sorted)
    ∙ ap (list_any (λ x. test (included tables x))) (sym is)
    ∙ sym (any_map test (included tables) kept)
