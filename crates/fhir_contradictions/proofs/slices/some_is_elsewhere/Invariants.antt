use Rattle.std.proofs.Common.{◌≡◌, drop}
use Rattle.std.specs.List.{list_any}
use Rattle.fhir_forms.specs.CriteriaSeen.{criteria_seen}
use Rattle.fhir_contradictions.specs.Contradictions.{is_elsewhere}
use Rattle.fhir_contradictions.proofs.slices.some_is_elsewhere.Given as goal

abbrev pub invariant-loop-criterion : goal.invariant-loop-criterion
invariant-loop-criterion l =
    list_any (is_elsewhere l.schema l.by l.node) (criteria_seen (drop l.criterion-index l.criteria))
    ≡ list_any (is_elsewhere l.schema l.by l.node) (criteria_seen l.criteria)
