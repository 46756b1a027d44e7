-- What an item that conforms to a node meets: of the node's rules of its value, of its children, and of its type.
use Rattle.std.proofs.Common.{◌≡◌, Bool, true, false, cond, List, [], ◌∷◌, ◌++◌, length, nat_eq, refl, ap, inl, inr, IsTrue, ◌||◌}
use Rattle.std.specs.Option.{option_map_or}
use Rattle.std.specs.List.{AllByRecursion, list_all, list_any}
use Rattle.std.proofs.lemmas.Bool.{and_parts, both_ways, or_cases, or_left, or_right}
use Rattle.fhir_elements.specs.TypeEntry.{TypeEntry}
use Rattle.fhir_nodes.specs.declared.node.NodeRef.{NodeRef}
use Rattle.fhir_schema.specs.Schemas.{SchemaValue, element_at, is_root_node, types, type_root}
use Rattle.fhir_schema.specs.Covers.{covers, type_at}
use Rattle.fhir_instance.specs.Items.{Item, item, type_of, kids_of}
use Rattle.fhir_facets.specs.Unread.{Meaning}
use Rattle.fhir_facets.specs.Targets.{targets_hold}
use Rattle.fhir_conformance.specs.Asks.{Ask, own, root_type, types as of_types, facet_asks, constraint_asks, own_root, profile_asks, kids_asks, root_asks, inner_asks}
use Rattle.fhir_conformance.specs.Conformance.{Interpretation, Around, meaning_at, resource_at, inside, kid_tests, ask_holds, root_holds, inner_holds, conforms, seen, is_untyped, fixed_at, pattern_at, range_at, length_at, binding_at, at_element, entry_allows, entry_holds, profiles_hold, types_hold}
use Rattle.fhir_contradictions.proofs.Passing.{all_front, all_back, any_weaker}

-- one of the node's types covers the item's, where it names any
abbrev pub IsCovered : SchemaValue → Item → NodeRef → Type 0
IsCovered s x n = IsTrue (is_untyped s n || list_any (λ (e : TypeEntry). covers s e.code (type_of x)) (types s n))

module _ (s : SchemaValue) (meaning : Interpretation) (around : Around) (x : Item) where
  -- the tests of the children
  abbrev pub tests : List (NodeRef → Bool)
  tests = kid_tests s meaning (inside s around x) 0 (kids_of x)

  -- what is asked holds of the item, where these are the roots that it conforms to
  abbrev pub holds : (NodeRef → Bool) → Ask → Bool
  holds roots ask = ask_holds s (meaning_at meaning around) (resource_at s around x) x tests roots ask

  -- what a node asks of the value, of the children and of the type is met
  pub record Meets (n : NodeRef) : Type 0 where
    pub roots : NodeRef → Bool
    pub facets : IsTrue (list_all (holds roots) (facet_asks n))
    pub kids : IsTrue (list_all (holds roots) (kids_asks s x n))
    pub type : IsCovered s x n
    pub root : is_root_node s n ≡ true → IsTrue (covers s (type_at s n) (type_of x))

  -- a root names no types
  untyped_root : (n : NodeRef) → is_root_node s n ≡ true → IsCovered s x n
  untyped_root n is =
      or_left (is_untyped s n) (list_any (λ (e : TypeEntry). covers s e.code (type_of x)) (types s n))
      (ap (λ (b : Bool). nat_eq (length (cond b [] (option_map_or (λ e. e.types) (element_at s n) []))) 0) is)

  -- where all holds that a root asks, its value and its children are as they should be
  meets_root : (n : NodeRef) → is_root_node s n ≡ true → IsTrue (list_all (holds (λ r. true)) (root_asks s x n)) → Meets n
  meets_root n is h =
      let roots : NodeRef → Bool = λ r. true in
      let others = constraint_asks s n ++ kids_asks s x n in
      let parts = and_parts (holds roots (own root_type n)) (list_all (holds roots) (facet_asks n ++ others)) h in
      record {
        roots = roots;
        facets = all_front (holds roots) (facet_asks n) others parts.1;
        kids = all_back (holds roots) (constraint_asks s n) (kids_asks s x n) (all_back (holds roots) (facet_asks n) others parts.1);
        type = untyped_root n is;
        root = λ is. parts.0;
      }

  -- the item is of a type that the entry's code covers
  covered : (roots : NodeRef → Bool) (e : TypeEntry) → IsTrue (entry_holds s (meaning_at meaning around) roots x e) → IsTrue (covers s e.code (type_of x))
  covered roots e h =
      (and_parts (covers s e.code (type_of x)) (targets_hold s (meaning_at meaning around) e (seen x))
      (and_parts (entry_allows s (meaning_at meaning around) x e) (profiles_hold s (meaning_at meaning around) roots x e.profiles) h).0).0

  -- an item that is of one of the types is of one that a code covers
  of_a_type : (roots : NodeRef → Bool) (n : NodeRef) → IsTrue (types_hold s (meaning_at meaning around) roots x n) → IsCovered s x n
  of_a_type roots n h =
      elim (or_cases (is_untyped s n) (list_any (entry_holds s (meaning_at meaning around) roots x) (types s n)) h) [
        | inl none ↦ or_left (is_untyped s n) (list_any (λ (e : TypeEntry). covers s e.code (type_of x)) (types s n)) none
        | inr some ↦ or_right (is_untyped s n) (list_any (λ (e : TypeEntry). covers s e.code (type_of x)) (types s n))
            (any_weaker (entry_holds s (meaning_at meaning around) roots x) (λ (e : TypeEntry). covers s e.code (type_of x)) (covered roots) (types s n) some)
      ]

  -- where all holds that another node asks, so are they, and its type
  meets_inner : (roots : NodeRef → Bool) (n : NodeRef) → is_root_node s n ≡ false → IsTrue (list_all (holds roots) (inner_asks s x n)) → Meets n
  meets_inner roots n inner h =
      let last = profile_asks s x n ++ kids_asks s x n in
      let of_root = own_root (type_root s (type_of x)) ++ last in
      let others = constraint_asks s n ++ of_root in
      let parts = and_parts (holds roots (of_types n)) (list_all (holds roots) (facet_asks n ++ others)) h in
      record {
        roots = roots;
        facets = all_front (holds roots) (facet_asks n) others parts.1;
        kids = all_back (holds roots) (profile_asks s x n) (kids_asks s x n)
            (all_back (holds roots) (own_root (type_root s (type_of x))) last
            (all_back (holds roots) (constraint_asks s n) of_root (all_back (holds roots) (facet_asks n) others parts.1)));
        type = of_a_type roots n parts.0;
        root = λ is. absurd (both_ways (is_root_node s n) inner is);
      }

-- an item that conforms to a node meets what that asks
pub meets : (s : SchemaValue) (meaning : Interpretation) (around : Around) (x : Item) (n : NodeRef) → IsTrue (conforms s meaning around x n) → Meets s meaning around x n
meets s meaning around (item type json kids) n holds = go (is_root_node s n) refl holds
  where
    go : (b : Bool) → is_root_node s n ≡ b
        → IsTrue (cond b (root_holds s (meaning_at meaning around) (resource_at s around (item type json kids)) (item type json kids) (tests s meaning around (item type json kids)) n)
        (inner_holds s (meaning_at meaning around) (resource_at s around (item type json kids)) (item type json kids) (tests s meaning around (item type json kids)) n))
        → Meets s meaning around (item type json kids) n
    go true is h = meets_root s meaning around (item type json kids) n is h
    go false is h =
        meets_inner s meaning around (item type json kids)
        (root_holds s (meaning_at meaning around) (resource_at s around (item type json kids)) (item type json kids) (tests s meaning around (item type json kids))) n is h

-- ---- the rules of the node's element that are of the item's value

pub record ValueRulesHold (s : SchemaValue) (m : Meaning) (x : Item) (n : NodeRef) : Type 0 where
  pub fixed : IsTrue (at_element s (fixed_at x) n)
  pub pattern : IsTrue (at_element s (pattern_at x) n)
  pub range : IsTrue (at_element s (range_at m x) n)
  pub length_limit : IsTrue (at_element s (length_at x) n)
  pub binding : IsTrue (at_element s (binding_at s m x) n)

-- what passes a test of all passes it one by one
all_each : {A : Type 0} (p : A → Bool) (xs : List A) → IsTrue (list_all p xs) → AllByRecursion (λ x. IsTrue (p x)) xs
all_each p [] h = tt
all_each p (x ∷ xs) h =
    let parts = and_parts (p x) (list_all p xs) h in
    (parts.0, all_each p xs parts.1)

-- they hold of an item that meets what the node asks
pub value_rules : (s : SchemaValue) (meaning : Interpretation) (around : Around) (x : Item) (n : NodeRef) → Meets s meaning around x n
    → ValueRulesHold s (meaning_at meaning around) x n
value_rules s meaning around x n met =
    let each = all_each (holds s meaning around x met.roots) (facet_asks n) met.facets in
    record { fixed = each.0; pattern = each.1.0; range = each.1.1.0; length_limit = each.1.1.1.0; binding = each.1.1.1.1.0 }
