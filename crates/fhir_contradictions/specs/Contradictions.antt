-- What an element asks for that no item can meet, or no parent of its items (FHIR R4, ElementDefinition).
use Rattle.std.specs.Prelude.{◌≡◌, ℕ, List, [], ◌∷◌, ◌++◌, map, Bool, true, false, not, ◌&&◌, ◌||◌, nat_lt, Option, None, Some, is_none, if◌then◌else◌}
use Rattle.std.specs.List.{list_all, list_any, sum_by}
use Rattle.std.specs.Option.{option_map_or, option_and_then}
use Rattle.fhir_json.specs.Tree.{Text, Tree}
use Rattle.fhir_json.specs.Fields.{as_text, is_object}
use Rattle.fhir_json.specs.Sound.{IsSound, differ}
use Rattle.fhir_matching.specs.Equality.{equal}
use Rattle.fhir_matching.specs.Fitting.{fits}
use Rattle.fhir_prims.specs.Values.{lexical}
use Rattle.fhir_elements.specs.TypeEntry.{TypeEntry}
use Rattle.fhir_elements.specs.Element.{Element, required_value_set}
use Rattle.fhir_nodes.specs.declared.node.NodeRef.{NodeRef}
use Rattle.fhir_nodes.specs.Types.{names_resource, primitive_of, is_system}
use Rattle.fhir_nodes.specs.Slots.{Slot}
use Rattle.fhir_forms.specs.Criteria.{Criterion, Sought, sole}
use Rattle.fhir_forms.specs.Criteria.{fixed as fixed_sought}
use Rattle.fhir_schema.specs.Schemas.{SchemaValue, element_at, is_root_node, slices, entry_of, types, loaded, criteria}
use Rattle.fhir_schema.specs.Covers.{covers, type_at}
use Rattle.fhir_instance.specs.Items.{Item, json_of}
use Rattle.fhir_instance.specs.Typing.{is_filled_text}
use Rattle.fhir_facets.specs.Seen.{Seen}
use Rattle.fhir_facets.specs.Unread.{Meaning}
use Rattle.fhir_facets.specs.Values.{is_short}
use Rattle.fhir_facets.specs.Ranges.{range_holds}
use Rattle.fhir_facets.specs.Bindings.{binding_to, binding_holds}
use Rattle.fhir_facets.specs.Cardinality.{least_of, are_within}
use Rattle.fhir_conformance.specs.Conformance.{is_untyped, range_of}
use Rattle.fhir_contradictions.specs.declared.contradiction.Contradiction.{Contradiction}
use Rattle.fhir_contradictions.specs.declared.contradiction.Contradiction.TheVariants as found
use Rattle.fhir_contradictions.specs.Typing.{Under, are_few, are_few_under, typed_by, codes_under, allows_code}
use Rattle.fhir_contradictions.specs.Along.{end_along}

-- no two have one name, as in each definition that can be used
abbrev pub names_differ : List Slot → Bool
names_differ some = differ (map (λ slot. slot.name) some)

-- ---- there has to be an item, and it can be of none of the types

abbrev pub is_required : Element → Bool
is_required e = nat_lt 0 (least_of e)

abbrev pub lacks_type : SchemaValue → NodeRef → Text → NodeRef → Bool
lacks_type s by name n =
    option_map_or is_required (element_at s n) false && not (list_any (allows_code s n) (codes_under s by name))

-- ---- the slices ask for more items together than there may be

abbrev pub slice_least : SchemaValue → NodeRef → Slot → ℕ
slice_least s n slice = option_map_or least_of (element_at s (entry_of n slice)) 0

abbrev pub asks_too_many : SchemaValue → NodeRef → Bool
asks_too_many s n = option_map_or (λ e. not (are_within e (sum_by (slice_least s n) (slices s n)))) (element_at s n) false

-- ---- no item of a slice can be of the types of the element that it is a slice of

-- an item may be of both codes
abbrev pub may_share : SchemaValue → Text → Text → Bool
may_share s a b = covers s a b || covers s b a || (names_resource s.definitions a && names_resource s.definitions b)

abbrev pub shares_none : SchemaValue → List TypeEntry → TypeEntry → Bool
shares_none s others e = list_all (λ other. not (may_share s e.code other.code)) others

abbrev pub has_other_types : SchemaValue → NodeRef → NodeRef → Bool
has_other_types s n slice = not (is_untyped s n) && not (is_untyped s slice) && list_all (shares_none s (types s n)) (types s slice)

-- ---- a slice is told by a value, where another one is asked of the same item

abbrev pub is_scalar : Tree → Bool
is_scalar (Tree.null) = true
is_scalar (Tree.boolean b) = true
is_scalar (Tree.number n) = true
is_scalar (Tree.string t) = true
is_scalar (Tree.array ts) = false
is_scalar (Tree.object ms) = false

abbrev pub fixes_other : SchemaValue → Tree → NodeRef → Bool
fixes_other s value n =
    option_map_or (λ e. option_map_or (λ p. not (equal value p.1)) e.fixed false) (element_at s n) false

-- its path leads to where another value is fixed
abbrev pub leads_elsewhere : SchemaValue → Option NodeRef → NodeRef → Criterion → Tree → Bool
leads_elsewhere s by n c value = option_map_or (fixes_other s value) (end_along s by n c.names) false

-- the value that it looks for, if that is a fixed one without parts
abbrev pub value_of : Sought → Option Tree
value_of (fixed_sought value) = if is_scalar value then Some value else None
value_of _ = None

abbrev pub is_elsewhere : SchemaValue → Option NodeRef → NodeRef → Criterion → Bool
is_elsewhere s by n c = option_map_or (leads_elsewhere s by n c) (value_of c.sought) false

-- the root of the one profile of the node's one type
abbrev pub profile_root : SchemaValue → NodeRef → Option NodeRef
profile_root s n = option_and_then (loaded s) (option_and_then (λ entry. sole entry.profiles) (sole (types s n)))

-- where it may be known which node of a type's definition types the slice's items
abbrev pub has_other_value : SchemaValue → Option NodeRef → NodeRef → NodeRef → Bool
has_other_value s by n slice =
    list_any (is_elsewhere s by n) (criteria s slice)
    || option_map_or (λ r. list_any (is_elsewhere s by r) (criteria s slice)) (profile_root s slice) false

-- ---- a fixed value that something else of its element refuses

-- the item's value is one that was read: no object of it has a name twice
abbrev pub IsSoundValue : Item → Type 0
IsSoundValue x = (t : Tree) → json_of x ≡ Some t → IsSound t

-- a fixed value as a facet sees it, as an item of a type
abbrev pub seen_as : Tree → Text → Seen
seen_as value code = record { type = code; json = Some value; has_kids = false }

-- each unread rule holds
abbrev pub lenient : Meaning
lenient rule = true

abbrev pub misses_pattern : Element → Tree → Bool
misses_pattern e value = option_map_or (λ p. not (fits value p.1)) e.pattern false

abbrev pub misses_length : Element → Tree → Bool
misses_length e value = option_map_or (λ most. option_map_or (λ text. not (is_short most text)) (as_text value) false) e.max_length false

-- the value fails a test as an item of a type that isn't one of resources
abbrev pub fails_as : SchemaValue → (Seen → Bool) → Tree → Text → Bool
fails_as s test value code = not (names_resource s.definitions code) && not (test (seen_as value code))

-- it does of each type that the node names, or of the one that a profile's root is of
abbrev pub fails_as_each : SchemaValue → NodeRef → (Seen → Bool) → Tree → Bool
fails_as_each s n test value =
    if is_root_node s n then fails_as s test value (type_at s n)
    else not (is_untyped s n) && list_all (λ entry. fails_as s test value entry.code) (types s n)

abbrev pub misses_range : SchemaValue → NodeRef → Element → Tree → Bool
misses_range s n e value = fails_as_each s n (range_holds lenient (range_of e)) value

abbrev pub misses_binding : SchemaValue → NodeRef → Element → Tree → Bool
misses_binding s n e value =
    option_map_or (λ canonical. fails_as_each s n (binding_holds lenient (binding_to s canonical)) value) (required_value_set e) false

-- an item of the type may have the value
abbrev pub may_have : SchemaValue → Tree → Text → Bool
may_have s value code =
    if is_system code then is_filled_text value
    else (if names_resource s.definitions code then true
    else option_map_or (λ prim. lexical prim value) (primitive_of s.definitions code) (is_object value))

abbrev pub is_possible : SchemaValue → NodeRef → Tree → Text → Bool
is_possible s n value code = allows_code s n code && may_have s value code

-- it is a value of none of the types that its items can have, of which there are some
abbrev pub misses_type : SchemaValue → NodeRef → Text → NodeRef → Tree → Bool
misses_type s by name n value =
    list_any (allows_code s n) (codes_under s by name) && not (list_any (is_possible s n value) (codes_under s by name))

abbrev pub fixed_misses : (Element → Tree → Bool) → SchemaValue → NodeRef → Bool
fixed_misses test s n = option_map_or (λ e. option_map_or (λ p. test e p.1) e.fixed false) (element_at s n) false

-- ---- all of a node

abbrev pub if_so : Bool → Contradiction → List Contradiction
if_so b c = if b then c ∷ [] else []

-- where it is known what the items stand under
abbrev pub type_contradictions : SchemaValue → Option Under → NodeRef → List Contradiction
type_contradictions s under n =
    if_so (option_map_or (λ u. are_few_under s u n && lacks_type s u.0 u.1 n) under false) found.NoType
    ++ if_so (option_map_or (λ u. are_few_under s u n && fixed_misses (λ e. misses_type s u.0 u.1 n) s n) under false) found.FixedType

abbrev pub are_few_of_both : SchemaValue → NodeRef → NodeRef → Bool
are_few_of_both s n slice = are_few (types s n) && are_few (types s slice)

-- where the node may be a slice of another one
abbrev pub slice_contradictions : SchemaValue → Option Under → Option NodeRef → NodeRef → List Contradiction
slice_contradictions s under sliced n =
    if_so (is_none sliced && (not (is_root_node s n) && asks_too_many s n)) found.TooManySliced
    ++ (if_so (option_map_or (λ m. are_few_of_both s m n && has_other_types s m n) sliced false) found.OtherTypes
    ++ if_so (option_map_or (λ m. has_other_value s (typed_by s under n) m n) sliced false) found.OtherValue)

abbrev pub fixed_contradictions : SchemaValue → NodeRef → List Contradiction
fixed_contradictions s n =
    if_so (fixed_misses misses_pattern s n) found.FixedPattern
    ++ (if_so (fixed_misses misses_length s n) found.FixedLength
    ++ (if_so (fixed_misses (misses_range s n) s n) found.FixedRange
    ++ if_so (fixed_misses (misses_binding s n) s n) found.FixedBinding))

abbrev pub contradictions_at : SchemaValue → Option Under → Option NodeRef → NodeRef → List Contradiction
contradictions_at s under sliced n = type_contradictions s under n ++ (slice_contradictions s under sliced n ++ fixed_contradictions s n)
