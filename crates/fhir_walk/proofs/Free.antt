-- What a lenient node asks of an item without children, but for its type: nothing.
use Rattle.std.proofs.Common.{◌≡◌, ℕ, zero, suc, Bool, true, false, not, is_none, List, [], ◌∷◌, map, length, refl, ap, ◌∙◌, ◌&&◌, ◌||◌, nat_eq, nat_le, IsTrue, Option, Some, None, cond, arith}
use Rattle.std.specs.List.{list_all, flat_map, range_with_len, slice_get}
use Rattle.std.specs.Option.{option_map_or, option_and_then, option_or}
use Rattle.std.specs.Ordering.{is_ge, is_le}
use Rattle.std.proofs.lemmas.Bool.{and_parts, and_from, false≢true}
use Rattle.fhir_json.specs.Tree.{Text}
use Rattle.fhir_elements.specs.declared.max.Max.{Max}
use Rattle.fhir_elements.specs.declared.max.Max.TheVariants.{Unbounded, UpTo}
use Rattle.fhir_elements.specs.Constraint.{Constraint, must_hold}
use Rattle.fhir_elements.specs.Element.{Element, required_value_set}
use Rattle.fhir_elements.specs.Max.{is_within}
use Rattle.fhir_nodes.specs.declared.node.NodeRef.{NodeRef}
use Rattle.fhir_nodes.specs.Slots.{Slot}
use Rattle.fhir_nodes.specs.Contents.{referred_node}
use Rattle.fhir_nodes.specs.Holders.{slots_at}
use Rattle.fhir_schema.specs.Schemas.{SchemaValue, element_at, target, slots, entry_of}
use Rattle.fhir_instance.specs.Items.{Item, no_kids, kids_of}
use Rattle.fhir_facets.specs.Cardinality.{are_enough, are_within}
use Rattle.fhir_facets.specs.Ranges.{bound_holds}
use Rattle.fhir_conformance.specs.Asks.{constraint_ask, own_constraint_asks, constraint_asks, child_ask, places_from, places_of, slot_asks, slots_ask, kids_asks}
use Rattle.fhir_conformance.specs.Conformance.{Around, seen, resource_at, constraint_passes, constraint_holds, at_element, fixed_at, pattern_at, range_at, length_at, binding_at}
use Rattle.fhir_summaries.specs.Summaries.{is_bare, has_no_value, has_no_bound, has_no_rule, has_no_error, may_be_absent, may_be_empty, asks_nothing}
use Rattle.fhir_walk.specs.Walks.{none, passes, pass_all, facets_hold, rest_holds}
use Rattle.fhir_walk.proofs.Parts.{joined, slot_parts}

unasked : {A : Type 0} (f : A → Bool) (o : Option A) → IsTrue (is_none o) → option_map_or f o true ≡ true
unasked f None is = refl
unasked f (Some a) is = absurd (false≢true is)

each_true : {A : Type 0} (p : A → Bool) (xs : List A) → ((x : A) → p x ≡ true) → list_all p xs ≡ true
each_true p [] each = refl
each_true p (x ∷ xs) each = (λ i. each x i && each_true p xs each i)

none_must : (cs : List Constraint) (i : ℕ) (f : Constraint → Bool) → IsTrue (list_all (λ c. not (must_hold c)) cs)
    → option_map_or (λ c. not (must_hold c) || f c) (slice_get cs i) true ≡ true
none_must [] i f each = refl
none_must (c ∷ cs) zero f each = ap (λ b. b || f c) (and_parts (not (must_hold c)) (list_all (λ c. not (must_hold c)) cs) each).0
none_must (c ∷ cs) (suc i) f each = none_must cs i f (and_parts (not (must_hold c)) (list_all (λ c. not (must_hold c)) cs) each).1

module _ (s : SchemaValue) (here : Around) (x : Item) where
  -- a bare element has no facet
  no_facets : (e : Element) → IsTrue (is_bare e) → facets_hold s x e ≡ true
  no_facets e bare =
      let parts = and_parts (has_no_value e) (has_no_bound e && has_no_rule e) bare in
      let values = and_parts (is_none e.fixed) (is_none e.pattern) parts.0 in
      let others = and_parts (has_no_bound e) (has_no_rule e) parts.1 in
      let bounds = and_parts (is_none e.min_value) (is_none e.max_value && is_none e.max_length) others.0 in
      let upper = and_parts (is_none e.max_value) (is_none e.max_length) bounds.1 in
      let rules = and_parts (is_none (required_value_set e)) (has_no_error e && is_none e.content_reference) others.1 in
      and_from (fixed_at x e && pattern_at x e) ((range_at none x e && length_at x e) && binding_at s none x e)
      (and_from (fixed_at x e) (pattern_at x e) (unasked _ e.fixed values.0) (unasked _ e.pattern values.1))
      (and_from (range_at none x e && length_at x e) (binding_at s none x e)
      (and_from (range_at none x e) (length_at x e) (λ i. unasked (bound_holds is_ge none (seen x)) e.min_value bounds.0 i && unasked (bound_holds is_le none (seen x)) e.max_value upper.0 i) (unasked _ e.max_length upper.1))
      (unasked _ (required_value_set e) rules.0))

  module _ (n : NodeRef) where
    -- it has no constraint that must hold
    no_errors : (e : Element) → element_at s n ≡ Some e → IsTrue (has_no_error e) → pass_all s here x (own_constraint_asks s n) ≡ true
    no_errors e is each =
        all_pass (range_with_len 0 (option_map_or (λ e. length e.constraints) (element_at s n) 0))
      where
        one : (i : ℕ) → passes s here x (constraint_ask n i) ≡ true
        one i =
            ap (λ o. option_map_or (constraint_passes s none (resource_at s here x) x) (option_and_then (λ e. slice_get e.constraints i) o) true) is
            ∙ none_must e.constraints i (constraint_holds s none (resource_at s here x) x) each

        all_pass : (positions : List ℕ) → pass_all s here x (map (constraint_ask n) positions) ≡ true
        all_pass [] = refl
        all_pass (i ∷ is) = (λ j. one i j && all_pass is j)

    -- it refers to no other element
    no_target : (e : Element) → element_at s n ≡ Some e → IsTrue (is_none e.content_reference) → target s n ≡ None
    no_target e is refers =
        ap (option_and_then (λ e. option_and_then (referred_node s.definitions n.definition) e.content_reference)) is
        ∙ lost e.content_reference refers
      where
        lost : (o : Option Text) → IsTrue (is_none o) → option_and_then (referred_node s.definitions n.definition) o ≡ None
        lost None is = refl
        lost (Some t) is = absurd (false≢true is)

    no_constraints : (e : Element) → element_at s n ≡ Some e → IsTrue (has_no_rule e) → pass_all s here x (constraint_asks s n) ≡ true
    no_constraints e is none_there =
        let rules = and_parts (is_none (required_value_set e)) (has_no_error e && is_none e.content_reference) none_there in
        let others = and_parts (has_no_error e) (is_none e.content_reference) rules.1 in
        joined s here x (own_constraint_asks s n) (option_map_or (own_constraint_asks s) (target s n) [])
        ∙ (λ i. no_errors e is others.0 i && pass_all s here x (option_map_or (own_constraint_asks s) (no_target e is others.1 i) []))

    module _ (childless : kids_of x ≡ no_kids) where
      no_places : (name : Text) → places_of name x ≡ []
      no_places name = ap (places_from 0 name) childless

      enough : (m : NodeRef) → IsTrue (option_map_or may_be_absent (element_at s m) true) → at_element s (λ e. are_enough e 0) m ≡ true
      enough m absent = by_case (element_at s m) absent
        where
          few : (o : Option ℕ) → IsTrue (option_map_or (λ least. nat_eq least 0) o true) → nat_le (option_map_or (λ n. n) o 0) 0 ≡ true
          few None is = refl
          few (Some k) is = none_needed k is
            where
              none_needed : (k : ℕ) → IsTrue (nat_eq k 0) → nat_le k 0 ≡ true
              none_needed k is = grind arith

          by_case : (o : Option Element) → IsTrue (option_map_or may_be_absent o true) → option_map_or (λ e. are_enough e 0) o true ≡ true
          by_case None is = refl
          by_case (Some e) is = few e.min is

      within : (m : NodeRef) → at_element s (λ e. are_within e 0) m ≡ true
      within m = by_case (element_at s m)
        where
          any : (o : Option Max) → option_map_or (is_within 0) o true ≡ true
          any None = refl
          any (Some Unbounded) = refl
          any (Some (UpTo k)) = least k
            where
              least : (k : ℕ) → nat_le 0 k ≡ true
              least k = grind arith

          by_case : (o : Option Element) → option_map_or (λ e. are_within e 0) o true ≡ true
          by_case None = refl
          by_case (Some e) = any e.max

      slot_passes : (slot : Slot) → IsTrue (may_be_empty s.definitions n slot) → pass_all s here x (slot_asks s x n slot) ≡ true
      slot_passes slot empty =
          let m = entry_of n slot in
          let parts = and_parts (option_map_or may_be_absent (element_at s m) true) _ empty in
          slot_parts s here x n slot parts.1
          ∙ (λ i. (at_element s (λ e. are_enough e (length (no_places slot.name i))) m && at_element s (λ e. are_within e (length (no_places slot.name i))) m)
          && pass_all s here x (map (child_ask m) (no_places slot.name i)))
          ∙ (λ i. (enough m parts.0 i && within m i) && true)

      slots_pass : (slots : List Slot) → IsTrue (list_all (may_be_empty s.definitions n) slots) → pass_all s here x (flat_map (slot_asks s x n) slots) ≡ true
      slots_pass [] each = refl
      slots_pass (slot ∷ slots) each =
          let parts = and_parts (may_be_empty s.definitions n slot) (list_all (may_be_empty s.definitions n) slots) each in
          joined s here x (slot_asks s x n slot) (flat_map (slot_asks s x n) slots) ∙ (λ i. slot_passes slot parts.0 i && slots_pass slots parts.1 i)

      kids_pass : (e : Element) → element_at s n ≡ Some e → IsTrue (is_none e.content_reference) → IsTrue (list_all (may_be_empty s.definitions n) (slots_at s.definitions n))
          → pass_all s here x (kids_asks s x n) ≡ true
      kids_pass e is refers each =
          ap (λ o. pass_all s here x (option_map_or (slots_ask s x) (option_or (cond (nat_eq (length (slots_at s.definitions n)) 0) None (Some n)) o) [])) (no_target e is refers)
          ∙ by_case (nat_eq (length (slots_at s.definitions n)) 0)
        where
          by_case : (b : Bool) → pass_all s here x (option_map_or (slots_ask s x) (option_or (cond b None (Some n)) None) []) ≡ true
          by_case true = refl
          by_case false = slots_pass (slots_at s.definitions n) each

      freed : (o : Option Element) → element_at s n ≡ o → IsTrue (option_map_or is_bare o false) → IsTrue (list_all (may_be_empty s.definitions n) (slots_at s.definitions n))
          → IsTrue (rest_holds s here x n)
      freed None is bare each = absurd (false≢true bare)
      freed (Some e) is bare each =
          let inner = and_parts (has_no_value e) (has_no_bound e && has_no_rule e) bare in
          let others = and_parts (has_no_bound e) (has_no_rule e) inner.1 in
          let rules = and_parts (is_none (required_value_set e)) (has_no_error e && is_none e.content_reference) others.1 in
          let last = and_parts (has_no_error e) (is_none e.content_reference) rules.1 in
          and_from (option_map_or (facets_hold s x) (element_at s n) true) (pass_all s here x (constraint_asks s n) && pass_all s here x (kids_asks s x n))
          (ap (λ o. option_map_or (facets_hold s x) o true) is ∙ no_facets e bare)
          (and_from (pass_all s here x (constraint_asks s n)) (pass_all s here x (kids_asks s x n)) (no_constraints e is others.1) (kids_pass e is last.1 each))

      pub free : IsTrue (asks_nothing s.definitions n) → IsTrue (rest_holds s here x n)
      free lenient =
          let parts = and_parts (option_map_or is_bare (element_at s n) false) (list_all (may_be_empty s.definitions n) (slots_at s.definitions n)) lenient in
          freed (element_at s n) refl parts.0 parts.1
