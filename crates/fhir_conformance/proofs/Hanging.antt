-- A rule of a node, and the code and the targets of a type entry, hang on the unread rules that they carry.
use Rattle.std.proofs.Common.{true, List, [], ◌∷◌, Option, None, Some, IsTrue}
use Rattle.std.specs.Option.{option_map_or}
use Rattle.std.specs.List.{Contains, AllByRecursion}
use Rattle.std.proofs.lemmas.Bool.{and_parts, and_from}
use Rattle.std.proofs.lemmas.List.Elements.{Contains-append_left, Contains-append_right, Contains-push}
use Rattle.fhir_elements.specs.TypeEntry.{TypeEntry}
use Rattle.fhir_elements.specs.Constraint.{Constraint, must_hold}
use Rattle.fhir_elements.specs.Element.{Element, required_value_set}
use Rattle.fhir_nodes.specs.declared.node.NodeRef.{NodeRef}
use Rattle.fhir_nodes.specs.Expressions.{expression_of}
use Rattle.fhir_schema.specs.Schemas.{SchemaValue, element_at}
use Rattle.fhir_schema.specs.Covers.{covers}
use Rattle.fhir_schema.specs.Expressions.{constraint_at}
use Rattle.fhir_instance.specs.Items.{Item, type_of}
use Rattle.fhir_facets.specs.Unread.{Unread, Meaning}
use Rattle.fhir_facets.specs.Targets.{targets_hold}
use Rattle.fhir_facets.specs.Carried.{range_unread, constraint_unread}
use Rattle.fhir_conformance.specs.Asks.{ElementRuleName, root_type, fixed, pattern, range, length_limit, binding, too_few, too_many, too_few_in, too_many_in, apart, in_a_slice, in_order, in_the_rest, constraint}
use Rattle.fhir_conformance.specs.Conformance.{seen, range_at, binding_at, constraint_passes, rule_holds, entry_allows}
use Rattle.fhir_conformance.specs.Meeting.{targets_unread, set_unread, rule_unread}
use Rattle.fhir_conformance.proofs.Carrying.{AreCarried, targets_step, element_step, set_step, constraint_given}

pub all_contained : {A : Type 0} (P : A → Type 0) (xs : List A) → ((x : A) → Contains xs x → P x) → AllByRecursion P xs
all_contained P [] f = tt
all_contained P (x ∷ xs) f = (
  f x (Contains-append_left (x ∷ []) xs x (Contains-push [] x)),
  all_contained P xs (λ y has. f y (Contains-append_right (x ∷ []) xs y has)),
)

module _ (s : SchemaValue) (m m' : Meaning) (resource x : Item) where
  rule_step : (rule : ElementRuleName) (n : NodeRef) → AreCarried m m' (rule_unread s x rule n)
      → IsTrue (rule_holds s m resource x rule n) → IsTrue (rule_holds s m' resource x rule n)
  rule_step range n each holds = by_case (element_at s n) each holds
    where
      by_case : (o : Option Element) → AreCarried m m' (option_map_or range_unread o [])
          → IsTrue (option_map_or (range_at m x) o true) → IsTrue (option_map_or (range_at m' x) o true)
      by_case None each holds = holds
      by_case (Some e) each holds = element_step s m m' x e each holds
  rule_step binding n each holds = by_case (element_at s n) each holds
    where
      by_case : (o : Option Element) → AreCarried m m' (option_map_or (set_unread s x) o [])
          → IsTrue (option_map_or (binding_at s m x) o true) → IsTrue (option_map_or (binding_at s m' x) o true)
      by_case None each holds = holds
      by_case (Some e) each holds = set_step s m m' x (required_value_set e) each holds
  rule_step (constraint position) n each holds = by_case (constraint_at s n position) each holds
    where
      by_case : (o : Option Constraint) → AreCarried m m' (option_map_or constraint_unread o [])
          → IsTrue (option_map_or (constraint_passes s m resource x) o true) → IsTrue (option_map_or (constraint_passes s m' resource x) o true)
      by_case None each holds = holds
      by_case (Some c) each holds = constraint_given s m m' resource x c (must_hold c) (expression_of c) each holds
  rule_step root_type n each holds = holds
  rule_step fixed n each holds = holds
  rule_step pattern n each holds = holds
  rule_step length_limit n each holds = holds
  rule_step (too_few name) n each holds = holds
  rule_step (too_many name) n each holds = holds
  rule_step (too_few_in name) n each holds = holds
  rule_step (too_many_in name) n each holds = holds
  rule_step (apart position) n each holds = holds
  rule_step (in_a_slice position) n each holds = holds
  rule_step (in_order earlier position) n each holds = holds
  rule_step (in_the_rest position) n each holds = holds

  pub rule_hangs : (rule : ElementRuleName) (n : NodeRef) → ((u : Unread) → Contains (rule_unread s x rule n) u → IsTrue (m u) → IsTrue (m' u))
      → IsTrue (rule_holds s m resource x rule n) → IsTrue (rule_holds s m' resource x rule n)
  rule_hangs rule n f = rule_step rule n (all_contained (λ u. IsTrue (m u) → IsTrue (m' u)) (rule_unread s x rule n) f)

pub entry_hangs : (s : SchemaValue) (m m' : Meaning) (x : Item) (e : TypeEntry)
    → ((u : Unread) → Contains (targets_unread s e) u → IsTrue (m u) → IsTrue (m' u)) → IsTrue (entry_allows s m x e) → IsTrue (entry_allows s m' x e)
entry_hangs s m m' x e f holds =
    let parts = and_parts (covers s e.code (type_of x)) (targets_hold s m e (seen x)) holds in
    and_from (covers s e.code (type_of x)) (targets_hold s m' e (seen x)) parts.0
    (targets_step s m m' x e (all_contained (λ u. IsTrue (m u) → IsTrue (m' u)) (targets_unread s e) f) parts.1)
