-- What is asked of children by those that are kept of the ones before them, is what is asked by all before them.
use Rattle.std.proofs.Common.{◌≡◌, ℕ, Bool, true, false, not, List, [], ◌∷◌, ◌++◌, ◌-◌, length, map, filter, Option, None, Some, is_some, is_none, refl, sym, ap, ◌∙◌, cond, arith}
use Rattle.std.proofs.lemmas.List.{append-nil}
use Rattle.std.specs.Prelude.{nat_lt, nat_le}
use Rattle.std.specs.Option.{option_map, option_map_or}
use Rattle.std.specs.List.{last_or, slice_get}
use Rattle.fhir_nodes.specs.declared.node.NodeRef.{NodeRef}
use Rattle.fhir_schema.specs.Schemas.{SchemaValue}
use Rattle.fhir_instance.specs.Items.{Item}
use Rattle.fhir_facets.specs.Order.{may_follow}
use Rattle.fhir_conformance.specs.declared.sequence.Standing.{Standing}
use Rattle.fhir_conformance.specs.Positions.{slice_place}
use Rattle.fhir_conformance.specs.Asks.{Ask, own, in_order, order_asks, behind_rest, rest_ask}
use Rattle.fhir_conformance.specs.Standing.{behind, placed_ask, nearest_ask, put_behind, remembered, found_asks, rest_asks}

-- ---- lists with one more at the end

filter_more : {A : Type 0} (p : A → Bool) (xs : List A) (y : A) → filter p (xs ++ y ∷ []) ≡ filter p xs ++ cond (p y) (y ∷ []) []
filter_more p [] y = refl
filter_more {A} p (x ∷ xs) y = by_case (p x) (filter_more p xs y)
  where
    by_case : (b : Bool) → filter p (xs ++ y ∷ []) ≡ filter p xs ++ cond (p y) (y ∷ []) [] → cond b (x ∷ filter p (xs ++ y ∷ [])) (filter p (xs ++ y ∷ [])) ≡ cond b (x ∷ filter p xs) (filter p xs) ++ cond (p y) (y ∷ []) []
    by_case true behind = ap (λ (zs : List A). x ∷ zs) behind
    by_case false behind = behind

last_more : {A : Type 0} (o : Option A) (xs : List A) (y : A) → last_or o (xs ++ y ∷ []) ≡ Some y
last_more o [] y = refl
last_more o (x ∷ xs) y = last_more (Some x) xs y

-- the last, by its position
last_from : {A : Type 0} (x : A) (xs : List A) → slice_get (x ∷ xs) (length xs) ≡ last_or (Some x) xs
last_from x [] = refl
last_from x (y ∷ ys) = last_from y ys

pub last_is : {A : Type 0} (xs : List A) → slice_get xs (length xs - 1) ≡ last_or None xs
last_is [] = refl
last_is (x ∷ xs) =
    let same : length (x ∷ xs) - 1 ≡ length xs = omega arith in
    ap (slice_get (x ∷ xs)) same ∙ last_from x xs

-- where each that passes the one test passes the other
filter_both : {A : Type 0} (p q : A → Bool) → ((x : A) → p x ≡ true → q x ≡ true) → (xs : List A) → filter p (filter q xs) ≡ filter p xs
filter_both p q f [] = refl
filter_both {A} p q f (x ∷ xs) = by_case (q x) refl (filter_both p q f xs)
  where
    kept : (b : Bool) → p x ≡ b → q x ≡ false → filter p xs ≡ cond b (x ∷ filter p xs) (filter p xs)
    kept false is others = refl
    kept true is others = cc (f x is, others)

    by_case : (b : Bool) → q x ≡ b → filter p (filter q xs) ≡ filter p xs → filter p (cond b (x ∷ filter q xs) (filter q xs)) ≡ cond (p x) (x ∷ filter p xs) (filter p xs)
    by_case true is behind = ap (λ (zs : List A). cond (p x) (x ∷ zs) zs) behind
    by_case false is behind = behind ∙ kept (p x) refl is

-- ---- the nearest that a child may not follow

module _ (s : SchemaValue) (x : Item) (n : NodeRef) where
  abbrev place : ℕ → Option ℕ
  place i = slice_place s x n i

  -- a child in the slice there, or in none, may not follow that one
  abbrev blocks : Option ℕ → ℕ → Bool
  blocks mine j = not (may_follow (place j) mine)

  free : (o : Option ℕ) → not (may_follow o None) ≡ false
  free None = refl
  free (Some k) = refl

  none_blocks : (js : List ℕ) → filter (blocks None) js ≡ []
  none_blocks [] = refl
  none_blocks (j ∷ js) = ap (λ b. cond b (j ∷ filter (blocks None) js) (filter (blocks None) js)) (free (place j)) ∙ none_blocks js

  -- those that are kept tell the nearest, whatever slice a child is in
  abbrev pub Knows : List ℕ → List Standing → Type 0
  Knows earlier standing =
      (own_place : ℕ) → last_or None (filter (blocks (Some own_place)) earlier) ≡ option_map (λ (one : Standing). one.position) (last_or None (behind own_place standing))

  pass_over : (earlier : List ℕ) (standing : List Standing) (i : ℕ) → place i ≡ None → Knows earlier standing → Knows (earlier ++ i ∷ []) standing
  pass_over earlier standing i is knows own_place =
      ap (last_or None)
      (filter_more (blocks (Some own_place)) earlier i
      ∙ ap (λ (o : Option ℕ). filter (blocks (Some own_place)) earlier ++ cond (not (may_follow o (Some own_place))) (i ∷ []) []) is
      ∙ append-nil (filter (blocks (Some own_place)) earlier))
      ∙ knows own_place

  keep : (earlier : List ℕ) (standing : List Standing) (i p : ℕ) → place i ≡ Some p → Knows earlier standing → Knows (earlier ++ i ∷ []) (put_behind i p standing)
  keep earlier standing i p is knows own_place =
      ap (last_or None)
      (filter_more (blocks (Some own_place)) earlier i
      ∙ ap (λ (o : Option ℕ). filter (blocks (Some own_place)) earlier ++ cond (not (may_follow o (Some own_place))) (i ∷ []) []) is)
      ∙ by_case (nat_lt own_place p) refl
      ∙ sym (ap (λ (zs : List Standing). option_map (λ (one : Standing). one.position) (last_or None zs)) (filter_more (λ (one : Standing). nat_lt own_place one.place) (behind p standing) one))
    where
      one : Standing
      one = record { position = i; place = p }

      kept : nat_lt own_place p ≡ false → behind own_place (behind p standing) ≡ behind own_place standing
      kept not_before =
          filter_both (λ (one : Standing). nat_lt own_place one.place) (λ (one : Standing). nat_lt p one.place)
          (λ one before. grind arith) standing

      by_case : (b : Bool) → nat_lt own_place p ≡ b
          → last_or None (filter (blocks (Some own_place)) earlier ++ cond (not (nat_le p own_place)) (i ∷ []) [])
          ≡ option_map (λ (one : Standing). one.position) (last_or None (behind own_place (behind p standing) ++ cond b (one ∷ []) []))
      by_case true before =
          let later : not (nat_le p own_place) ≡ true = grind arith in
          ap (λ b. last_or None (filter (blocks (Some own_place)) earlier ++ cond b (i ∷ []) [])) later
          ∙ last_more None (filter (blocks (Some own_place)) earlier) i
          ∙ sym (ap (option_map (λ (one : Standing). one.position)) (last_more None (behind own_place (behind p standing)) one))
      by_case false not_before =
          let earlier_or_same : not (nat_le p own_place) ≡ false = grind arith in
          ap (λ b. last_or None (filter (blocks (Some own_place)) earlier ++ cond b (i ∷ []) [])) earlier_or_same
          ∙ ap (last_or None) (append-nil (filter (blocks (Some own_place)) earlier))
          ∙ knows own_place
          ∙ sym (ap (λ (zs : List Standing). option_map (λ (one : Standing). one.position) (last_or None zs))
          (append-nil (behind own_place (behind p standing)) ∙ kept not_before))

  abbrev asked_by : ℕ → Option ℕ → List Ask
  asked_by i o = option_map_or (λ j. own (in_order j i) n ∷ []) o []

  pub found_is : (earlier : List ℕ) (standing : List Standing) → Knows earlier standing → (is : List ℕ)
      → found_asks s x n standing is ≡ order_asks s x n earlier is
  found_is earlier standing knows [] = refl
  found_is earlier standing knows (i ∷ is) = by_case (place i) refl (λ earlier standing knows. found_is earlier standing knows is)
    where
      by_case : (o : Option ℕ) → place i ≡ o
          → ((earlier : List ℕ) (standing : List Standing) → Knows earlier standing → found_asks s x n standing is ≡ order_asks s x n earlier is)
          → (nearest_ask n i o standing ++ found_asks s x n (remembered i o standing) is)
          ≡ (asked_by i (last_or None (filter (blocks o) earlier)) ++ order_asks s x n (earlier ++ i ∷ []) is)
      by_case None at further =
          further (earlier ++ i ∷ []) standing (pass_over earlier standing i at knows)
          ∙ sym (ap (λ (js : List ℕ). asked_by i (last_or None js) ++ order_asks s x n (earlier ++ i ∷ []) is) (none_blocks earlier))
      by_case (Some p) at further =
          ap (λ (asks : List Ask). placed_ask n i p standing ++ asks) (further (earlier ++ i ∷ []) (put_behind i p standing) (keep earlier standing i p at knows))
          ∙ sym (ap (λ (o : Option ℕ). asked_by i o ++ order_asks s x n (earlier ++ i ∷ []) is) (knows p))

  pub all_found : (is : List ℕ) → found_asks s x n [] is ≡ order_asks s x n [] is
  all_found is = found_is [] [] (λ own_place. refl) is

  -- ---- those in no slice

  all_rest : (is : List ℕ) → rest_asks s x n true is ≡ map (rest_ask n) is
  all_rest [] = refl
  all_rest (i ∷ is) = ap (λ (asks : List Ask). rest_ask n i ∷ asks) (all_rest is)

  pub rest_is : (is : List ℕ) → rest_asks s x n false is ≡ map (rest_ask n) (behind_rest s x n is)
  rest_is [] = refl
  rest_is (i ∷ is) = by_case (place i) (rest_is is)
    where
      by_case : (o : Option ℕ) → rest_asks s x n false is ≡ map (rest_ask n) (behind_rest s x n is) → rest_asks s x n (is_none o) is ≡ map (rest_ask n) (cond (is_some o) (behind_rest s x n is) is)
      by_case (Some p) behind = behind
      by_case None behind = all_rest is
