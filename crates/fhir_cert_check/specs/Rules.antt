-- The rules of a certificate's pairs: when a pair is right by the certificate's others. A pair of items says that each
-- item which conforms to its derived node conforms to its base node, and a pair of children the same of an item's
-- children; no item occurs in the rules.
use Rattle.std.specs.Prelude.{List, [], ◌∷◌, ◌++◌, map, Bool, true, false, not, ◌&&◌, ◌||◌, Option, None, Some, is_none, if◌then◌else◌}
use Rattle.std.specs.Option.{option_map_or, option_to_list}
use Rattle.std.specs.List.{list_all, list_any, flat_map}
use Rattle.std.specs.Str.{bytes_eq}
use Rattle.fhir_json.specs.Tree.{Text}
use Rattle.fhir_elements.specs.TypeEntry.{TypeEntry}
use Rattle.fhir_elements.specs.Constraint.{Constraint, must_hold}
use Rattle.fhir_elements.specs.Element.{Element, required_value_set}
use Rattle.fhir_elements.specs.Tests.{first_of, all_hold}
use Rattle.fhir_nodes.specs.declared.node.NodeRef.{NodeRef}
use Rattle.fhir_nodes.specs.Slots.{Slot}
use Rattle.fhir_nodes.specs.Expressions.{expression_of}
use Rattle.fhir_fp_syntax.specs.Expression.{Expression}
use Rattle.fhir_entail.specs.Entailment.{entails}
use Rattle.fhir_schema.specs.Schemas.{SchemaValue, element_at, target, entry_of, is_root_node, slots, slot_named, slices, slice_named, is_closed, holder, child_holder, types, type_root, loaded}
use Rattle.fhir_nodes.specs.Types.{names_resource}
use Rattle.fhir_schema.specs.Covers.{covers, type_at}
use Rattle.fhir_facets.specs.Values.{fixed_narrower, pattern_narrower, fixed_fits, length_narrower}
use Rattle.fhir_facets.specs.Ranges.{range_narrower}
use Rattle.fhir_facets.specs.Targets.{targets_narrower}
use Rattle.fhir_facets.specs.Bindings.{binding_to, binding_narrower}
use Rattle.fhir_facets.specs.Cardinality.{cardinality_narrower, is_forbidden, are_enough}
use Rattle.fhir_facets.specs.Order.{ordered_narrower, end_narrower_by}
use Rattle.fhir_slicing.specs.SameCriteria.{same_criteria}
use Rattle.fhir_conformance.specs.Conformance.{range_of, is_untyped}
use Rattle.fhir_certificate.specs.declared.pair.Pair.{Pair}
use Rattle.fhir_certificate.specs.declared.pair.Pair.TheVariants.{Item, Kids}
use Rattle.fhir_cert_check.specs.Rule.{RuleName, type, fixed, pattern, range, length_limit, binding, constraint, children, slot, cardinality, entry, slice, criteria, bounds, closed, ordered, at_end}
use Rattle.fhir_json.specs.Bytes.{is_empty}
use Rattle.fhir_cert_check.specs.Lists.{each_answers}

-- ---- what an element asks of a value: each of the base's is answered by one of the derived's

-- what the base asks for, if anything, is answered by what the derived element asks for
abbrev pub is_answered : {A B : Type 0} → (A → B → Bool) → Option A → Option B → Bool
is_answered answers own base = option_map_or (λ q. option_map_or (λ p. answers p q) own false) base true

abbrev pub fixed_answers : Element → Element → Bool
fixed_answers e f = is_answered (λ p q. fixed_narrower p.1 q.1) e.fixed f.fixed

-- by a fixed value that fits, or by a pattern that does
abbrev pub pattern_answers : Element → Element → Bool
pattern_answers e f =
    is_answered (λ p q. fixed_fits p.1 q.1) e.fixed f.pattern || is_answered (λ p q. pattern_narrower p.1 q.1) e.pattern f.pattern

abbrev pub range_answers : Element → Element → Bool
range_answers e f = range_narrower (range_of e) (range_of f)

abbrev pub length_answers : Element → Element → Bool
length_answers e f = is_answered length_narrower e.max_length f.max_length

-- by a required binding to the same value set, or to one within
abbrev pub binding_answers : SchemaValue → Element → Element → Bool
binding_answers s e f = is_answered (λ own base. binding_narrower (binding_to s own) (binding_to s base)) (required_value_set e) (required_value_set f)

-- the elements of two nodes are so; what is no node asks for nothing
abbrev pub elements_answer : (Element → Element → Bool) → SchemaValue → NodeRef → NodeRef → Bool
elements_answer answers s n m = is_answered answers (element_at s n) (element_at s m)

abbrev pub is_forbidden_at : SchemaValue → NodeRef → Bool
is_forbidden_at s n = option_map_or is_forbidden (element_at s n) false

-- ---- constraints: each of the base's that must hold is entailed by the derived's that must

-- the expressions of those that must hold, as far as they are read
abbrev pub held_expression : Constraint → List Expression
held_expression c = if must_hold c then option_to_list (expression_of c) else []

abbrev pub held_expressions : List Constraint → List Expression
held_expressions own = flat_map held_expression own

-- the same text: of the expression; or, where neither has one, of the key
abbrev pub says_same : Constraint → Constraint → Bool
says_same own base =
    option_map_or (λ asked. option_map_or (bytes_eq asked) own.expression false) base.expression
    (is_none own.expression && bytes_eq base.key own.key)

abbrev pub repeats : Constraint → Constraint → Bool
repeats own base = must_hold own && says_same own base

-- An expression that is read is entailed by those of all that must hold. One that isn't stands among them as it is.
abbrev pub constraint_answered : List Constraint → Constraint → Bool
constraint_answered own base =
    option_map_or (entails (held_expressions own)) (expression_of base) (list_any (λ c. repeats c base) own)

-- what the base's constraint asks of the derived element's constraints
abbrev pub constraint_rule : List Constraint → Constraint → List (Bool × RuleName)
constraint_rule own base = if must_hold base then (constraint_answered own base, constraint base.key) ∷ [] else []

abbrev pub own_constraints : SchemaValue → NodeRef → List Constraint
own_constraints s n = option_map_or (λ e. e.constraints) (element_at s n) []

-- a node's own, and those of the node that it refers to for its content
abbrev pub constraints_at : SchemaValue → NodeRef → List Constraint
constraints_at s n = own_constraints s n ++ option_map_or (own_constraints s) (target s n) []

abbrev pub constraint_rules : SchemaValue → NodeRef → NodeRef → List (Bool × RuleName)
constraint_rules s n m = flat_map (constraint_rule (constraints_at s n)) (constraints_at s m)

-- ---- two roots

abbrev pub roots_answer : SchemaValue → NodeRef → NodeRef → Bool
roots_answer s n m = is_root_node s m && covers s (type_at s m) (type_at s n)

-- ---- slicings

-- the base's element has the slice too, told apart by the same
abbrev pub is_shared : SchemaValue → NodeRef → NodeRef → Slot → Bool
is_shared s n m a = option_map_or (λ b. same_criteria s (entry_of n a) (entry_of m b)) (slice_named s m a.name) false

-- each slice of the derived element is one of the base's too, or no item may be in it
abbrev pub slices_shared : SchemaValue → NodeRef → NodeRef → Bool
slices_shared s n m = list_all (λ a. is_forbidden_at s (entry_of n a) || is_shared s n m a) (slices s n)

-- where the base's element is closed, so is the derived one, and in a slice that the base lacks no item may be
abbrev pub closed_answers : SchemaValue → NodeRef → NodeRef → Bool
closed_answers s n m = is_empty (slices s m) || not (is_closed s m) || (is_closed s n && slices_shared s n m)

-- where the base's element is open at its end, so is the derived one, or closed; and items in slices that the base lacks come last
abbrev pub end_answers : SchemaValue → NodeRef → NodeRef → Bool
end_answers s n m = end_narrower_by (is_shared s n m) s n m

-- what the base's slicing asks of the derived one's, beside what each of its slices does
abbrev pub slicing_rules : SchemaValue → Text → NodeRef → NodeRef → List (Bool × RuleName)
slicing_rules s name n m =
    (closed_answers s n m, closed name) ∷ (ordered_narrower s n m, ordered name) ∷ (end_answers s n m, at_end name) ∷ []

-- a slice of the base's asks for no item
abbrev pub empty_slice_rule : SchemaValue → Text → NodeRef → Slot → Bool × RuleName
empty_slice_rule s name m b = (option_map_or (λ f. are_enough f 0) (element_at s (entry_of m b)) true, bounds name b.name)

-- ---- the rules, in their order

module _ (pairs : Pair → Bool) where
  abbrev pub has_item_pair : NodeRef → NodeRef → Bool
  has_item_pair n m = pairs (Item (record { derived = n; base = m }))

  abbrev pub has_kids_pair : NodeRef → NodeRef → Bool
  has_kids_pair n m = pairs (Kids (record { derived = n; base = m }))

  module _ (s : SchemaValue) where
    -- ---- types

    -- a profile is the same, or there is a pair for the two roots
    abbrev pub profile_answers : Text → Text → Bool
    profile_answers own base =
        bytes_eq own base || option_map_or (λ n. option_map_or (has_item_pair n) (loaded s base) false) (loaded s own) false

    -- the base's entry names no profiles; or the derived one names some, and each is answered by one of the base's
    abbrev pub profiles_answer : List Text → List Text → Bool
    profiles_answer own base = is_empty base || (not (is_empty own) && each_answers profile_answers own base)

    -- the item's type is one that the base's entry allows, and so are the targets of its references, and its profiles
    abbrev pub entry_answers : TypeEntry → TypeEntry → Bool
    entry_answers e f = covers s f.code e.code && targets_narrower s e f && profiles_answer e.profiles f.profiles

    abbrev pub types_answer : NodeRef → NodeRef → Bool
    types_answer n m = is_untyped s m || (not (is_untyped s n) && each_answers entry_answers (types s n) (types s m))

    abbrev pub type_answers : NodeRef → NodeRef → Bool
    type_answers n m = if is_root_node s n then roots_answer s n m else not (is_root_node s m) && types_answer n m

    -- ---- children

    -- the children of the derived node
    abbrev pub own_children_answer : NodeRef → NodeRef → Bool
    own_children_answer n base = option_map_or (λ derived. has_kids_pair derived base) (holder s n) false

    -- those that the definition of an entry's type has: its items are of that very type, unless it is of resources
    abbrev pub code_children_answer : NodeRef → TypeEntry → Bool
    code_children_answer base e =
        not (names_resource s.definitions e.code) && option_map_or (λ root. has_kids_pair root base) (type_root s e.code) false

    -- those of each profile that an entry names, where each of them can be used
    abbrev pub profiles_children_answer : NodeRef → TypeEntry → Bool
    profiles_children_answer base e =
        not (is_empty e.profiles) && list_all (λ p. option_map_or (λ root. has_kids_pair root base) (loaded s p) false) e.profiles

    abbrev pub entry_children_answer : NodeRef → TypeEntry → Bool
    entry_children_answer base e = profiles_children_answer base e || code_children_answer base e

    -- those of each type that the derived node names
    abbrev pub type_children_answer : NodeRef → NodeRef → Bool
    type_children_answer n base = not (is_untyped s n) && list_all (entry_children_answer base) (types s n)

    -- The base node has no children; or there is a pair for them with the node that has the derived one's, or with the
    -- definitions of each type that the derived node names: its profiles, or its own.
    abbrev pub children_answer : NodeRef → NodeRef → Bool
    children_answer n m = option_map_or (λ base. own_children_answer n base || type_children_answer n base) (child_holder s m) true

    abbrev pub item_rules : NodeRef → NodeRef → List (Bool × RuleName)
    item_rules n m =
        (type_answers n m, type)
        ∷ (elements_answer fixed_answers s n m, fixed)
        ∷ (elements_answer pattern_answers s n m, pattern)
        ∷ (elements_answer range_answers s n m, range)
        ∷ (elements_answer length_answers s n m, length_limit)
        ∷ (elements_answer (binding_answers s) s n m, binding)
        ∷ (constraint_rules s n m ++ (children_answer n m, children) ∷ [])

    -- ---- slices

    -- no item may be there, or there is a pair
    abbrev pub is_paired : NodeRef → NodeRef → Bool
    is_paired n m = is_forbidden_at s n || has_item_pair n m

    -- what a slice of the base's element asks of the derived one's slice of that name
    abbrev pub own_slice_rules : Text → NodeRef → NodeRef → Slot → Option Slot → List (Bool × RuleName)
    own_slice_rules name n m b None = (false, slice name b.name) ∷ []
    own_slice_rules name n m b (Some a) =
        (same_criteria s (entry_of n a) (entry_of m b), criteria name b.name)
        ∷ (elements_answer cardinality_narrower s (entry_of n a) (entry_of m b), bounds name b.name)
        ∷ (is_paired (entry_of n a) (entry_of m b), slice name b.name)
        ∷ []

    abbrev pub slice_rules : Text → NodeRef → NodeRef → Slot → List (Bool × RuleName)
    slice_rules name n m b = own_slice_rules name n m b (slice_named s n b.name)

    -- where no item may be, no slice of the base's asks for one, and nothing more is asked
    abbrev pub entry_rules : Text → NodeRef → NodeRef → List (Bool × RuleName)
    entry_rules name n m =
        if is_forbidden_at s n then map (empty_slice_rule s name m) (slices s m)
        else (has_item_pair n m, entry name) ∷ flat_map (slice_rules name n m) (slices s m) ++ slicing_rules s name n m

    -- ---- slots

    abbrev pub own_slot_rules : NodeRef → NodeRef → Slot → Option Slot → List (Bool × RuleName)
    own_slot_rules n m b None = (false, slot b.name) ∷ []
    own_slot_rules n m b (Some a) =
        (elements_answer cardinality_narrower s (entry_of n a) (entry_of m b), cardinality b.name)
        ∷ entry_rules b.name (entry_of n a) (entry_of m b)

    -- what a slot of the base node asks of the derived one
    abbrev pub slot_rules : NodeRef → NodeRef → Slot → List (Bool × RuleName)
    slot_rules n m b = own_slot_rules n m b (slot_named s n b.name)

    abbrev pub kids_rules : NodeRef → NodeRef → List (Bool × RuleName)
    kids_rules n m = flat_map (slot_rules n m) (slots s m)

    abbrev pub rules_of : Pair → List (Bool × RuleName)
    rules_of (Item p) = item_rules p.derived p.base
    rules_of (Kids p) = kids_rules p.derived p.base

    -- the first rule that a pair fails
    abbrev pub failing_rule : Pair → Option RuleName
    failing_rule p = first_of (rules_of p)

    -- the pair fails no rule
    abbrev pub is_local : Pair → Bool
    is_local p = all_hold (rules_of p)
