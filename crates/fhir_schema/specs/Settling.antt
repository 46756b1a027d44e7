-- Which definitions can't be used, and why: judged in rounds, each against what the rounds before have found.
use Rattle.std.specs.Prelude.{ℕ, zero, suc, List, [], ◌∷◌, ◌++◌, map, length, get_or, Bool, true, false, not, ◌&&◌, ◌||◌, Option, None, Some, is_none, if◌then◌else◌}
use Rattle.std.specs.Option.{option_map, option_map_or, option_and_then, option_or}
use Rattle.std.specs.List.{list_all, slice_get}
use Rattle.fhir_json.specs.Tree.{Text}
use Rattle.fhir_elements.specs.declared.reason.Reason.{Reason}
use Rattle.fhir_elements.specs.declared.reason.Reason.TheVariants.{UnusableType, NoTree, MissingContent, BaseCycle, UnsupportedSlicing, NoSnapshot, SecondType}
use Rattle.fhir_elements.specs.TypeEntry.{TypeEntry}
use Rattle.fhir_elements.specs.Element.{Element}
use Rattle.fhir_elements.specs.Tests.{first_of}
use Rattle.fhir_definition.specs.Snapshot.{is_root, is_at, is_tree}
use Rattle.fhir_definition.specs.Definition.{Definition, has_snapshot}
use Rattle.fhir_nodes.specs.Types.{type_place, is_system}
use Rattle.fhir_nodes.specs.Urls.{canonical_place}
use Rattle.fhir_nodes.specs.Contents.{content_target}
use Rattle.fhir_forms.specs.Forms.{spells_apart}
use Rattle.fhir_forms.specs.Criteria.{are_told_apart}

-- ---- why definitions can't be used, so far as is found, by their places

abbrev pub Reasons : Type 0
Reasons = List (Option Reason)

abbrev pub reason_at : Reasons → ℕ → Option Reason
reason_at reasons place = get_or reasons place None

-- ---- reasons that other definitions give

abbrev pub is_usable_type : List Definition → Reasons → Text → Bool
is_usable_type ds reasons code = option_map_or (λ place. is_none (reason_at reasons place)) (type_place ds code) false

abbrev pub entry_is_usable : List Definition → Reasons → TypeEntry → Bool
entry_is_usable ds reasons entry = is_system entry.code || is_usable_type ds reasons entry.code

-- the type entries of a root are passed over
abbrev pub element_is_usable : List Definition → Reasons → Element → Bool
element_is_usable ds reasons e = is_root e || list_all (entry_is_usable ds reasons) e.types

abbrev pub types_are_usable : List Definition → Reasons → Definition → Bool
types_are_usable ds reasons d = is_usable_type ds reasons d.type && list_all (element_is_usable ds reasons) d.elements

abbrev pub is_type_at : List Definition → ℕ → Bool
is_type_at ds place = option_map_or (λ d. d.is_type) (slice_get ds place) false

-- a type definition refers to elements of type definitions alone, for a tree is typed by no others
abbrev pub may_refer : List Definition → Definition → ℕ → Bool
may_refer ds d place = not d.is_type || is_type_at ds place

abbrev pub place_referred : List Definition → Definition → ℕ → Option ℕ
place_referred ds d place = if may_refer ds d place then Some place else None

-- the place of the definition that has the element to which another refers for its content, if it may refer to that one
abbrev pub target_place : List Definition → Definition → Element → Option ℕ
target_place ds d e = option_and_then (place_referred ds d) (option_map (λ n. n.definition) (content_target ds d.place e))

-- that element is there, and its definition can be used
abbrev pub target_is_usable : List Definition → Reasons → Definition → Element → Bool
target_is_usable ds reasons d e =
    is_none e.content_reference || option_map_or (λ place. is_none (reason_at reasons place)) (target_place ds d e) false

abbrev pub targets_are_usable : List Definition → Reasons → Definition → Bool
targets_are_usable ds reasons d = list_all (target_is_usable ds reasons d) d.elements

abbrev pub base_place : List Definition → Definition → Option ℕ
base_place ds d = option_and_then (canonical_place ds) d.base

abbrev pub base_of_place : List Definition → ℕ → Option ℕ
base_of_place ds place = option_and_then (base_place ds) (slice_get ds place)

-- the chain of bases ends within so many steps
abbrev pub ends_within : List Definition → ℕ → Option ℕ → Bool
ends_within ds n None = true
ends_within ds zero (Some place) = false
ends_within ds (suc n) (Some place) = ends_within ds n (base_of_place ds place)

-- the chain of bases ends, since one without a cycle has no more steps than there are definitions
abbrev pub chain_ends : List Definition → Definition → Bool
chain_ends ds d = ends_within ds (length ds) (base_place ds d)

-- it is the first of its type, if it is a type definition
abbrev pub is_first_of_type : List Definition → Definition → Bool
is_first_of_type ds d = not d.is_type || is_at d.place (type_place ds d.type)

-- ---- which reason is answered

-- the fault that it has by itself, if it has one
abbrev pub fault_of : Definition → List (Bool × Reason)
fault_of d = option_map_or (λ fault. (false, fault) ∷ []) d.fault []

-- the elements of its snapshot are a tree, and no two forms of a node's children spell one property
abbrev pub is_well_formed : List Definition → Definition → Bool
is_well_formed ds d = is_tree d.elements && spells_apart ds d

-- its elements are a tree, where it has any
abbrev pub has_tree : List Definition → Definition → Bool
has_tree ds d = not (has_snapshot d) || is_well_formed ds d

-- what a definition has to meet last, whichever others can't be used
abbrev pub lasting_tests : List Definition → Definition → List (Bool × Reason)
lasting_tests ds d =
    (chain_ends ds d, BaseCycle)
    ∷ (are_told_apart ds d, UnsupportedSlicing)
    ∷ (has_snapshot d, NoSnapshot)
    ∷ (is_first_of_type ds d, SecondType)
    ∷ []

-- What a definition has to meet, each with the reason that applies where it doesn't. So far as `reasons` say which others
-- can't be used.
abbrev pub tests : List Definition → Reasons → Definition → List (Bool × Reason)
tests ds reasons d =
    fault_of d
    ++ (types_are_usable ds reasons d, UnusableType)
    ∷ (has_tree ds d, NoTree)
    ∷ (targets_are_usable ds reasons d, MissingContent)
    ∷ lasting_tests ds d

-- ---- the rounds

-- why a definition can't be used, as far as is found: the reason that was found before, or the first that applies
abbrev pub reason_of : List Definition → Reasons → Definition → Option Reason
reason_of ds reasons d = option_or (reason_at reasons d.place) (first_of (tests ds reasons d))

abbrev pub round : List Definition → Reasons → Reasons
round ds reasons = map (reason_of ds reasons) ds

abbrev pub rounds : List Definition → ℕ → Reasons → Reasons
rounds ds zero reasons = reasons
rounds ds (suc n) reasons = rounds ds n (round ds reasons)

abbrev pub no_reasons : List Definition → Reasons
no_reasons ds = map (λ d. None) ds

-- why each can't be used: what is found in as many rounds as there are definitions
abbrev pub all_reasons : List Definition → Reasons
all_reasons ds = rounds ds (length ds) (no_reasons ds)
