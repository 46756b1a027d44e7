-- The snapshot of a definition (FHIR R4, Profiling, snapshots): the one that it brings, or what its differential makes of its
-- base's.
use Rattle.std.specs.Prelude.{◌≡◌, ℕ, zero, suc, List, Bool, true, false, ◌&&◌, Some, is_none, codes, if◌then◌else◌}
use Rattle.std.specs.Option.{option_map_or}
use Rattle.std.specs.List.{list_all}
use Rattle.fhir_json.specs.Tree.{Text, Tree}
use Rattle.fhir_json.specs.Fields.{field, is_object, allows_items}
use Rattle.fhir_elements.specs.Element.{Element, element_fault}
use Rattle.fhir_package.specs.declared.kind.Kind.TheVariants.{StructureDefinition}
use Rattle.fhir_package.specs.Definitions.{Definitions, at_url}
use Rattle.fhir_definition.specs.Snapshot.{ids_differ}
use Rattle.fhir_snapshot.specs.declared.fault.SnapFault.{SnapFault}
use Rattle.fhir_snapshot.specs.declared.fault.SnapFault.TheVariants as faults
use Rattle.fhir_inheritance.specs.Sources.{brings_snapshot, trees_in, elements_in, base_of}
use Rattle.fhir_snapshot.specs.Order.{IsLaid}

-- ---- what a definition brings

-- absent, or an object whose elements are an array
abbrev pub has_right_part : Text → Tree → Bool
has_right_part part t = option_map_or (λ s. is_object s && allows_items (codes "element") s) (field part t) true

-- each tree is an element
abbrev pub brings_elements : Text → Tree → Bool
brings_elements part t = has_right_part part t && list_all (λ e. is_none (element_fault e)) (trees_in part t)

-- a snapshot of elements, or else a differential of elements with different ids
abbrev pub is_right : Tree → Bool
is_right t =
    if brings_snapshot t then brings_elements (codes "snapshot") t
    else (brings_elements (codes "differential") t && ids_differ (elements_in (codes "differential") t))

-- ---- snapshots

-- the elements are those that the definition brings; or those that its differential makes of the base's, where these are
-- elements of that url
abbrev pub IsMade : (Text → List Element → Type 0) → Definitions → Text → Tree → Bool → List Element → Type 0
IsMade snapshots p url t true es = es ≡ elements_in (codes "snapshot") t
IsMade snapshots p url t false es =
    (base : Text) × (base_of p t ≡ Some base)
    × ((under : List Element) × snapshots base under × IsLaid p url under (elements_in (codes "differential") t) es)

-- the snapshot of the definition of a url, which rests on fewer bases than the bound
abbrev pub SnapshotIn : ℕ → Definitions → Text → List Element → Type 0
SnapshotIn zero p url es = ⊥
SnapshotIn (suc bound) p url es =
    (t : Tree) × (at_url StructureDefinition url p ≡ Some t) × (is_right t ≡ true) × IsMade (SnapshotIn bound p) p url t (brings_snapshot t) es

abbrev pub IsSnapshot : Definitions → Text → List Element → Type 0
IsSnapshot p url es = (bound : ℕ) × SnapshotIn bound p url es

-- the definition of a url has no snapshot
abbrev pub HasNone : Definitions → Text → Type 0
HasNone p url = (es : List Element) → IsSnapshot p url es → ⊥

-- the fault that says that memory ran out
abbrev pub is_no_memory : SnapFault → Bool
is_no_memory faults.NoMemory = true
is_no_memory _ = false
