use Rattle.std.proofs.Common.{◌≡◌, drop}
use Rattle.fhir_forms.specs.CriteriaSeen.{criteria_seen}
use Rattle.fhir_instance.specs.View.{item_of}
use Rattle.fhir_slicing.specs.Belonging.{belongs}
use Rattle.fhir_slicing.proofs.belonging.belongs.Given as goal

abbrev pub invariant-loop-criterion : goal.invariant-loop-criterion
invariant-loop-criterion l =
    belongs l.schema (criteria_seen (drop l.criterion-index l.criteria)) (item_of l.item) ≡ belongs l.schema (criteria_seen l.criteria) (item_of l.item)
