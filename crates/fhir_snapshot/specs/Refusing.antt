-- Why a definition has no snapshot, by the number of a fault: it has that fault itself, or one on which it rests has it.
use Rattle.std.specs.Prelude.{◌≡◌, List, [], ◌∷◌, ◌++◌, Bool, true, false, Option, None, Some, ◌⊎◌, codes}
use Rattle.fhir_json.specs.Tree.{Text, Tree}
use Rattle.fhir_elements.specs.Element.{Element}
use Rattle.fhir_package.specs.declared.kind.Kind.TheVariants.{StructureDefinition}
use Rattle.fhir_package.specs.Definitions.{Definitions, at_url}
use Rattle.fhir_definition.specs.Snapshot.{ids_differ}
use Rattle.fhir_asking.specs.Asking.{NeedsItself}
use Rattle.fhir_inheritance.specs.Sources.{brings_snapshot, elements_in, is_constraint, base_of}
use Rattle.fhir_snapshot.specs.declared.fault.SnapNumber.{SnapNumber}
use Rattle.fhir_snapshot.specs.declared.fault.SnapNumber.TheVariants.{S1, S2, S3, S4, S5}
use Rattle.fhir_snapshot.specs.Order.{IsLaid}
use Rattle.fhir_snapshot.specs.Snapshots.{brings_elements, IsSnapshot}
use Rattle.fhir_snapshot.specs.Chains.{ending, Rests, IsChain, Starts}

-- ---- a definition's own faults

-- it isn't there; or it constrains a type, brings no snapshot, and its base isn't there
abbrev pub IsMissing : Definitions → Option Tree → Type 0
IsMissing p None = Unit {0}
IsMissing p (Some t) = (brings_snapshot t ≡ false) × (is_constraint t ≡ true) × (base_of p t ≡ None)

-- the base has a snapshot, of which the differential makes none
abbrev pub MakesNone : Definitions → Text → Tree → Type 0
MakesNone p url t =
    (base : Text) × (under : List Element) × Rests p url base × IsSnapshot p base under
    × ((es : List Element) → IsLaid p url under (elements_in (codes "differential") t) es → ⊥)

-- a definition that brings no snapshot defines a type; or its differential isn't one of elements, or makes none
abbrev pub IsWrongDraft : Definitions → Text → Tree → Bool → Type 0
IsWrongDraft p url t false = Unit {0}
IsWrongDraft p url t true = (brings_elements (codes "differential") t ≡ false) ⊎ MakesNone p url t

-- the snapshot that it brings isn't one of elements; or it brings none, and that
abbrev pub IsWrong : Definitions → Text → Tree → Bool → Type 0
IsWrong p url t true = brings_elements (codes "snapshot") t ≡ false
IsWrong p url t false = IsWrongDraft p url t (is_constraint t)

abbrev pub HasOwn : Definitions → Text → SnapNumber → Type 0
HasOwn p url S1 = IsMissing p (at_url StructureDefinition url p)
-- its chain of bases comes back to itself
HasOwn p url S2 = NeedsItself (ending p) url
HasOwn p url S3 = (t : Tree) × (at_url StructureDefinition url p ≡ Some t) × IsWrong p url t (brings_snapshot t)
-- two elements of its differential have one id
HasOwn p url S4 =
    (t : Tree) × (at_url StructureDefinition url p ≡ Some t) × (brings_snapshot t ≡ false) × (ids_differ (elements_in (codes "differential") t) ≡ false)
HasOwn p url S5 = ⊥

-- ---- along a chain

-- the number applies to the definition of a url: it has that fault, or one on which it rests does
abbrev pub Applies : Definitions → Text → SnapNumber → Type 0
Applies p url number =
    (low : Text) × (urls : List Text) × IsChain p (urls ++ low ∷ []) × Starts url (urls ++ low ∷ []) × HasOwn p low number
