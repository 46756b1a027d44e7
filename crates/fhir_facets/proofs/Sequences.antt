-- Each pair of a list, where it is gone through once.
use Rattle.std.proofs.Common.{◌≡◌, ℕ, Bool, true, false, not, ◌&&◌, ◌||◌, List, [], ◌∷◌, Option, None, Some, IsTrue, refl, sym, ap, ◌∙◌, arith}
use Rattle.std.specs.Prelude.{nat_le}
use Rattle.std.specs.List.{list_all}
use Rattle.std.proofs.lemmas.Bool.{and_parts, and_from, false≢true}
use Rattle.fhir_facets.specs.Order.{each_pair, may_follow, later_of, are_in_order, none_behind}

-- ---- places that don't go down

-- where that is the last place before them
abbrev pub goes_on : Option ℕ → List (Option ℕ) → Bool
goes_on last [] = true
goes_on last (place ∷ places) = may_follow last place && goes_on (later_of last place) places

all_after_none : (ps : List (Option ℕ)) → list_all (may_follow None) ps ≡ true
all_after_none [] = refl
all_after_none (p ∷ ps) = all_after_none ps

follows_none : (o : Option ℕ) → may_follow o None ≡ true
follows_none None = refl
follows_none (Some k) = refl

follows_lower : (j k : ℕ) (o : Option ℕ) → IsTrue (nat_le j k) → IsTrue (may_follow (Some k) o) → IsTrue (may_follow (Some j) o)
follows_lower j k None le h = refl
follows_lower j k (Some l) le h = grind arith

all_lower : (j k : ℕ) → IsTrue (nat_le j k) → (ps : List (Option ℕ)) → IsTrue (list_all (may_follow (Some k)) ps) → IsTrue (list_all (may_follow (Some j)) ps)
all_lower j k le [] h = refl
all_lower j k le (p ∷ ps) h =
    let parts = and_parts (may_follow (Some k) p) (list_all (may_follow (Some k)) ps) h in
    and_from (may_follow (Some j) p) (list_all (may_follow (Some j)) ps) (follows_lower j k p le parts.0) (all_lower j k le ps parts.1)

both : (a b c : Bool) → (IsTrue b → IsTrue a) → (b && c) ≡ (a && (b && c))
both true b c f = refl
both false true c f = absurd (false≢true (f refl))
both false false c f = refl

pub goes_on_is : (last : Option ℕ) (ps : List (Option ℕ)) → goes_on last ps ≡ (list_all (may_follow last) ps && each_pair may_follow ps)
goes_on_is last [] = refl
goes_on_is last (None ∷ ps) =
    ap (λ b. b && goes_on last ps) (follows_none last)
    ∙ goes_on_is last ps
    ∙ sym (λ i. (follows_none last i && list_all (may_follow last) ps) && (all_after_none ps i && each_pair may_follow ps))
goes_on_is None (Some k ∷ ps) = goes_on_is (Some k) ps ∙ sym (ap (λ b. b && (list_all (may_follow (Some k)) ps && each_pair may_follow ps)) (all_after_none ps))
goes_on_is (Some j) (Some k ∷ ps) = by_case (nat_le j k) refl (goes_on_is (Some k) ps)
  where
    by_case : (b : Bool) → nat_le j k ≡ b → goes_on (Some k) ps ≡ (list_all (may_follow (Some k)) ps && each_pair may_follow ps)
        → (b && goes_on (Some k) ps) ≡ ((b && list_all (may_follow (Some j)) ps) && (list_all (may_follow (Some k)) ps && each_pair may_follow ps))
    by_case false is behind = refl
    by_case true is behind =
        behind
        ∙ both (list_all (may_follow (Some j)) ps) (list_all (may_follow (Some k)) ps) (each_pair may_follow ps) (all_lower j k is ps)

pub in_order_is : (ps : List (Option ℕ)) → goes_on None ps ≡ are_in_order ps
in_order_is ps = goes_on_is None ps ∙ ap (λ b. b && each_pair may_follow ps) (all_after_none ps)

-- ---- none of a kind behind one of another

module _ {A : Type 0} (first second : A → Bool) where
  -- where one of the other kind stands before them, or none does
  abbrev pub goes_behind : Bool → List A → Bool
  goes_behind b [] = true
  goes_behind b (x ∷ xs) = not (b && second x) && goes_behind (b || first x) xs

  abbrev no_second : List A → Bool
  no_second xs = list_all (λ x. not (second x)) xs

  none_too : (b : Bool) (xs : List A) → IsTrue (no_second xs) → IsTrue (list_all (λ x. not (b && second x)) xs)
  none_too b [] h = refl
  none_too b (x ∷ xs) h =
      let parts = and_parts (not (second x)) (no_second xs) h in
      and_from (not (b && second x)) (list_all (λ x. not (b && second x)) xs) (here b (second x) parts.0) (none_too b xs parts.1)
    where
      here : (b c : Bool) → IsTrue (not c) → IsTrue (not (b && c))
      here true c h = h
      here false c h = refl

  all_true : (xs : List A) → list_all (λ x. not (false && second x)) xs ≡ true
  all_true [] = refl
  all_true (x ∷ xs) = all_true xs

  pub goes_behind_is : (b : Bool) (xs : List A) → goes_behind b xs ≡ ((not b || no_second xs) && none_behind first second xs)
  goes_behind_is true [] = refl
  goes_behind_is false [] = refl
  goes_behind_is true (x ∷ xs) =
      ap (λ c. not (second x) && c) (goes_behind_is true xs)
      ∙ further (not (second x)) (no_second xs) (list_all (λ y. not (first x && second y)) xs) (none_behind first second xs) (none_too (first x) xs)
    where
      further : (a l m r : Bool) → (IsTrue l → IsTrue m) → (a && (l && r)) ≡ ((a && l) && (m && r))
      further false l m r f = refl
      further true false m r f = refl
      further true true m r f = ap (λ c. c && r) (sym (f refl))
  goes_behind_is false (x ∷ xs) = by_case (first x) (goes_behind_is true xs) (goes_behind_is false xs)
    where
      by_case : (c : Bool) → goes_behind true xs ≡ (no_second xs && none_behind first second xs) → goes_behind false xs ≡ none_behind first second xs
          → goes_behind c xs ≡ (list_all (λ y. not (c && second y)) xs && none_behind first second xs)
      by_case true after_one after_none = after_one
      by_case false after_one after_none = after_none ∙ sym (ap (λ b. b && none_behind first second xs) (all_true xs))

  pub none_behind_is : (xs : List A) → goes_behind false xs ≡ none_behind first second xs
  none_behind_is xs = goes_behind_is false xs
