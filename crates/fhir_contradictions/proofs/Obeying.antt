-- What conforming to a node gives: its fixed value, its types, and what the node's slots ask.
use Rattle.std.proofs.Common.{◌≡◌, Bool, true, false, not, List, [], ◌∷◌, ◌++◌, Some, refl, sym, ap, subst, ◌∙◌, inl, inr, IsTrue, length, nat_eq}
use Rattle.std.specs.Prelude.{if◌then◌else◌}
use Rattle.std.specs.List.{list_all, list_any, Contains}
use Rattle.std.specs.Option.{option_map_or}
use Rattle.std.proofs.lemmas.Bool.{and_parts, or_cases, false≢true, true≢false}
use Rattle.fhir_nodes.specs.declared.node.NodeRef.{NodeRef}
use Rattle.fhir_nodes.specs.Slots.{Slot}
use Rattle.fhir_schema.specs.Schemas.{SchemaValue, is_root_node, element_at, holder, slots, types as node_types, type_root}
use Rattle.fhir_instance.specs.Items.{Item, type_of}
use Rattle.fhir_facets.specs.Unread.{Meaning}
use Rattle.fhir_conformance.specs.Asks.{root_type, fixed, pattern, range, length_limit, binding}
use Rattle.fhir_conformance.specs.Asks.{Ask, own, types, facet_asks, constraint_asks, own_root, profile_asks, slot_asks, slots_ask, kids_asks}
use Rattle.fhir_conformance.specs.Conformance.{is_untyped, entry_holds, types_hold, rule_holds, ask_holds, root_holds, inner_holds, item_holds}
use Rattle.fhir_contradictions.proofs.Passing.{all_back, all_given}

module _ (s : SchemaValue) (m : Meaning) (resource x : Item) (kids : List (NodeRef → Bool)) where
  abbrev Root : NodeRef → Bool
  Root = root_holds s m resource x kids

  -- behind the facets
  abbrev after_facets : NodeRef → List Ask
  after_facets n = constraint_asks s n ++ (own_root (type_root s (type_of x)) ++ (profile_asks s x n ++ kids_asks s x n))

  -- a typed node is none of a root, and one of its types holds
  pub typed_entry : (n : NodeRef) → IsTrue (not (is_untyped s n)) → IsTrue (item_holds s m resource x kids n) → IsTrue (list_any (entry_holds s m Root x) (node_types s n))
  typed_entry n = by_case (is_root_node s n) refl
    where
      by_case : (b : Bool) → is_root_node s n ≡ b → IsTrue (not (is_untyped s n))
          → IsTrue (if b then root_holds s m resource x kids n else inner_holds s m resource x kids n) → IsTrue (list_any (entry_holds s m Root x) (node_types s n))
      by_case true is typed holds =
          absurd (true≢false (sym typed ∙ ap (λ b. not (nat_eq (length (if b then [] else option_map_or (λ e. e.types) (element_at s n) [])) 0)) is))
      by_case false is typed holds =
          elim (or_cases (is_untyped s n) (list_any (entry_holds s m Root x) (node_types s n))
          (and_parts (types_hold s m Root x n) (list_all (ask_holds s m resource x kids Root) (facet_asks n ++ after_facets n)) holds).0) [
            | inl untyped ↦ absurd (false≢true (sym (ap (λ b. not b) untyped) ∙ typed))
            | inr some ↦ some
          ]

  -- the asks of the node's children hold, whichever roots the item conforms to
  abbrev pub HoldAt : List Ask → Type 0
  HoldAt asks = (roots : NodeRef → Bool) × IsTrue (list_all (ask_holds s m resource x kids roots) asks)

  pub kids_hold : (n : NodeRef) → IsTrue (item_holds s m resource x kids n) → HoldAt (kids_asks s x n)
  kids_hold n = by_case (is_root_node s n)
    where
      by_case : (b : Bool) → IsTrue (if b then root_holds s m resource x kids n else inner_holds s m resource x kids n) → HoldAt (kids_asks s x n)
      by_case true holds =
          let of = ask_holds s m resource x kids (λ r. true) in
          ((λ r. true), all_back of (constraint_asks s n) (kids_asks s x n) (all_back of (own root_type n ∷ facet_asks n) (constraint_asks s n ++ kids_asks s x n) holds))
      by_case false holds =
          let of = ask_holds s m resource x kids Root in (
            Root,
            all_back of (profile_asks s x n) (kids_asks s x n)
                (all_back of (own_root (type_root s (type_of x))) (profile_asks s x n ++ kids_asks s x n)
                (all_back of (constraint_asks s n) (own_root (type_root s (type_of x)) ++ (profile_asks s x n ++ kids_asks s x n))
                (all_back of (types n ∷ facet_asks n) (after_facets n) holds))),
          )

  -- those of one slot of the node that has its children
  pub slot_holds : (n h : NodeRef) (slot : Slot) → holder s n ≡ Some h → Contains (slots s h) slot → IsTrue (item_holds s m resource x kids n)
      → HoldAt (slot_asks s x h slot)
  slot_holds n h slot is among holds =
      let all = subst (λ o. HoldAt (option_map_or (slots_ask s x) o [])) is (kids_hold n holds) in
      (all.0, all_given (ask_holds s m resource x kids all.0) (slot_asks s x h) (slots s h) slot among all.1)

  -- the node's fixed value
  pub fixed_rule : (n : NodeRef) → IsTrue (item_holds s m resource x kids n) → IsTrue (rule_holds s m resource x fixed n)
  fixed_rule n = by_case (is_root_node s n)
    where
      second : (roots : NodeRef → Bool) (first : Ask) (rest : List Ask) → IsTrue (list_all (ask_holds s m resource x kids roots) (first ∷ own fixed n ∷ rest))
          → IsTrue (rule_holds s m resource x fixed n)
      second roots first rest holds =
          (and_parts (ask_holds s m resource x kids roots (own fixed n)) (list_all (ask_holds s m resource x kids roots) rest)
          (and_parts (ask_holds s m resource x kids roots first) (list_all (ask_holds s m resource x kids roots) (own fixed n ∷ rest)) holds).1).0

      by_case : (b : Bool) → IsTrue (if b then root_holds s m resource x kids n else inner_holds s m resource x kids n) → IsTrue (rule_holds s m resource x fixed n)
      by_case true holds = second (λ r. true) (own root_type n)
          (own pattern n ∷ own range n ∷ own length_limit n ∷ own binding n ∷ constraint_asks s n ++ kids_asks s x n) holds
      by_case false holds = second Root (types n)
          (own pattern n ∷ own range n ∷ own length_limit n ∷ own binding n ∷ after_facets n) holds
