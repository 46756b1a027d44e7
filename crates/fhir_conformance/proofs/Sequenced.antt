-- What is asked of how children stand to one another holds where it is so of each of them with each behind it.
use Rattle.std.proofs.Common.{◌≡◌, ℕ, Bool, true, false, not, ◌&&◌, ◌||◌, List, [], ◌∷◌, ◌++◌, map, filter, Option, None, Some, is_some, is_none, IsTrue, refl, sym, ap, ap₂, ◌∙◌, cond}
use Rattle.std.specs.List.{list_all, last_or}
use Rattle.std.specs.Option.{option_map_or}
use Rattle.std.proofs.lemmas.Bool.{and_parts, and_from, false≢true}
use Rattle.std.proofs.lemmas.List.Folds.{list_all-append}
use Rattle.fhir_nodes.specs.declared.node.NodeRef.{NodeRef}
use Rattle.fhir_schema.specs.Schemas.{SchemaValue}
use Rattle.fhir_instance.specs.Items.{Item}
use Rattle.fhir_facets.specs.Order.{each_pair, may_follow, none_behind}
use Rattle.fhir_conformance.specs.Positions.{slice_place}
use Rattle.fhir_conformance.specs.Asks.{Ask, own, in_order, order_ask, order_asks, rest_ask, behind_rest}

-- ---- tests of lists

all_both : {A : Type 0} (f g : A → Bool) (xs : List A) → list_all (λ x. f x && g x) xs ≡ (list_all f xs && list_all g xs)
all_both f g [] = refl
all_both f g (x ∷ xs) = ap (λ b. (f x && g x) && b) (all_both f g xs) ∙ turned (f x) (g x) (list_all f xs) (list_all g xs)
  where
    turned : (a b c d : Bool) → ((a && b) && (c && d)) ≡ ((a && c) && (b && d))
    turned true true c d = refl
    turned true false true d = refl
    turned true false false d = refl
    turned false b c d = refl

all_alike : {A : Type 0} (f g : A → Bool) → ((x : A) → f x ≡ g x) → (xs : List A) → list_all f xs ≡ list_all g xs
all_alike f g same [] = refl
all_alike f g same (x ∷ xs) = ap₂ (λ a b. a && b) (same x) (all_alike f g same xs)

all_true : {A : Type 0} (xs : List A) → list_all (λ x. true) xs ≡ true
all_true [] = refl
all_true (x ∷ xs) = all_true xs

all_given : {A B : Type 0} (p : B → Bool) (f : A → B) (xs : List A) → list_all p (map f xs) ≡ list_all (λ x. p (f x)) xs
all_given p f [] = refl
all_given p f (x ∷ xs) = ap (λ b. p (f x) && b) (all_given p f xs)

one_more : (b : Bool) → (b && true) ≡ b
one_more true = refl
one_more false = refl

module _ (s : SchemaValue) (x : Item) (n : NodeRef) (holds : Ask → Bool) where
  abbrev place : ℕ → Option ℕ
  place i = slice_place s x n i

  abbrev follows : ℕ → ℕ → Bool
  follows j i = may_follow (place j) (place i)

  -- ---- the order of the slices

  module _ (judged : (j i : ℕ) → holds (own (in_order j i) n) ≡ follows j i) where
    abbrev asked_by : ℕ → Option ℕ → List Ask
    asked_by i o = option_map_or (λ j. own (in_order j i) n ∷ []) o []

    abbrev blocks : ℕ → ℕ → Bool
    blocks i j = not (follows j i)

    -- it fails of each that a child may not follow
    one_fails : (i k : ℕ) → follows k i ≡ false → (js : List ℕ) → list_all holds (asked_by i (last_or (Some k) (filter (blocks i) js))) ≡ false
    one_fails i k is [] = one_more (holds (own (in_order k i) n)) ∙ judged k i ∙ is
    one_fails i k is (j ∷ js) = by_case (follows j i) refl (λ k is. one_fails i k is js)
      where
        by_case : (b : Bool) → follows j i ≡ b → ((k : ℕ) → follows k i ≡ false → list_all holds (asked_by i (last_or (Some k) (filter (blocks i) js))) ≡ false)
            → list_all holds (asked_by i (last_or (Some k) (cond (not b) (j ∷ filter (blocks i) js) (filter (blocks i) js)))) ≡ false
        by_case true follow further = further k is
        by_case false block further = further j block

    nearest_is : (i : ℕ) (js : List ℕ) → list_all holds (asked_by i (last_or None (filter (blocks i) js))) ≡ list_all (λ j. follows j i) js
    nearest_is i [] = refl
    nearest_is i (j ∷ js) = by_case (follows j i) refl (nearest_is i js)
      where
        by_case : (b : Bool) → follows j i ≡ b
            → list_all holds (asked_by i (last_or None (filter (blocks i) js))) ≡ list_all (λ j. follows j i) js
            → list_all holds (asked_by i (last_or None (cond (not b) (j ∷ filter (blocks i) js) (filter (blocks i) js)))) ≡ (b && list_all (λ j. follows j i) js)
        by_case true follow behind = behind
        by_case false block behind = one_fails i j block js

    -- each of these may follow all the earlier ones
    abbrev all_follow : List ℕ → List ℕ → Bool
    all_follow earlier is = list_all (λ i. list_all (λ j. follows j i) earlier) is

    one_more_earlier : (earlier : List ℕ) (i : ℕ) (is : List ℕ) → all_follow (earlier ++ i ∷ []) is ≡ (all_follow earlier is && list_all (follows i) is)
    one_more_earlier earlier i is =
        all_alike (λ k. list_all (λ j. follows j k) (earlier ++ i ∷ [])) (λ k. list_all (λ j. follows j k) earlier && follows i k)
        (λ k. list_all-append (λ j. follows j k) earlier (i ∷ []) ∙ ap (λ b. list_all (λ j. follows j k) earlier && b) (one_more (follows i k)))
        is
        ∙ all_both (λ k. list_all (λ j. follows j k) earlier) (follows i) is

    order_from : (earlier is : List ℕ) → list_all holds (order_asks s x n earlier is) ≡ (all_follow earlier is && each_pair follows is)
    order_from earlier [] = refl
    order_from earlier (i ∷ is) =
        list_all-append holds (order_ask s x n earlier i) (order_asks s x n (earlier ++ i ∷ []) is)
        ∙ ap₂ (λ a b. a && b) (nearest_is i earlier)
        (order_from (earlier ++ i ∷ []) is ∙ ap (λ b. b && each_pair follows is) (one_more_earlier earlier i is))
        ∙ turned (list_all (λ j. follows j i) earlier) (all_follow earlier is) (list_all (follows i) is) (each_pair follows is)
      where
        turned : (a b c d : Bool) → (a && ((b && c) && d)) ≡ ((a && b) && (c && d))
        turned true true c d = refl
        turned true false c d = refl
        turned false b c d = refl

    pub order_is : (is : List ℕ) → list_all holds (order_asks s x n [] is) ≡ each_pair follows is
    order_is is = order_from [] is ∙ ap (λ b. b && each_pair follows is) (all_true is)

  -- ---- those in no slice

  module _ (judged : (i : ℕ) → holds (rest_ask n i) ≡ is_none (place i)) where
    abbrev is_out : ℕ → Bool
    is_out i = is_none (place i)

    abbrev is_in : ℕ → Bool
    is_in i = is_some (place i)

    not_in : (o : Option ℕ) → is_none o ≡ not (is_some o)
    not_in None = refl
    not_in (Some k) = refl

    none_behind_all : (is : List ℕ) → IsTrue (list_all (λ i. not (is_in i)) is) → IsTrue (none_behind is_out is_in is)
    none_behind_all [] each = refl
    none_behind_all (i ∷ is) each =
        let parts = and_parts (not (is_in i)) (list_all (λ i. not (is_in i)) is) each in
        and_from (list_all (λ j. not (is_out i && is_in j)) is) (none_behind is_out is_in is) (weaker (is_out i) is parts.1) (none_behind_all is parts.1)
      where
        here : (b c : Bool) → IsTrue (not c) → IsTrue (not (b && c))
        here true c h = h
        here false c h = refl

        weaker : (b : Bool) (js : List ℕ) → IsTrue (list_all (λ j. not (is_in j)) js) → IsTrue (list_all (λ j. not (b && is_in j)) js)
        weaker b [] each = refl
        weaker b (j ∷ js) each =
            let parts = and_parts (not (is_in j)) (list_all (λ j. not (is_in j)) js) each in
            and_from (not (b && is_in j)) (list_all (λ j. not (b && is_in j)) js) (here b (is_in j) parts.0) (weaker b js parts.1)

    pub rest_is : (is : List ℕ) → list_all holds (map (rest_ask n) (behind_rest s x n is)) ≡ none_behind is_out is_in is
    rest_is [] = refl
    rest_is (i ∷ is) = by_case (place i) (rest_is is)
      where
        last : (a b : Bool) → (IsTrue a → IsTrue b) → a ≡ (a && b)
        last true b f = sym (f refl)
        last false b f = refl

        by_case : (o : Option ℕ) → list_all holds (map (rest_ask n) (behind_rest s x n is)) ≡ none_behind is_out is_in is
            → list_all holds (map (rest_ask n) (cond (is_some o) (behind_rest s x n is) is)) ≡ (list_all (λ j. not (is_none o && is_in j)) is && none_behind is_out is_in is)
        by_case (Some p) behind = behind ∙ sym (ap (λ b. b && none_behind is_out is_in is) (all_true is))
        by_case None behind =
            all_given holds (rest_ask n) is
            ∙ all_alike (λ j. holds (rest_ask n j)) (λ j. not (is_in j)) (λ j. judged j ∙ not_in (place j)) is
            ∙ last (list_all (λ j. not (is_in j)) is) (none_behind is_out is_in is) (none_behind_all is)
