-- Packages whose definitions bring what makes snapshots (FHIR R4, StructureDefinition, snapshot and differential).
use Rattle.std.specs.Prelude.{◌≡◌, true, Some}
use Rattle.fhir_json.specs.Tree.{Text, Tree}
use Rattle.fhir_package.specs.declared.kind.Kind.TheVariants.{StructureDefinition}
use Rattle.fhir_package.specs.Definitions.{Definitions, at_url}
use Rattle.fhir_snapshot.specs.Snapshots.{is_right}

-- each definition brings a snapshot of elements, or else a differential of elements with different ids
abbrev pub AreRight : Definitions → Type 0
AreRight p = (url : Text) (t : Tree) → at_url StructureDefinition url p ≡ Some t → is_right t ≡ true
