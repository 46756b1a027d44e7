use Rattle.std.proofs.Common.{◌≡◌, drop}
use Rattle.fhir_forms.specs.CriteriaSeen.{criteria_seen}
use Rattle.fhir_slicing.specs.SameCriteria.{same_lists, same_criterion}
use Rattle.fhir_slicing.proofs.sameness.same_lists.Given as goal

abbrev pub invariant-loop-criterion : goal.invariant-loop-criterion
invariant-loop-criterion l = same_lists same_criterion (criteria_seen (drop l.criterion-index l.criteria)) (criteria_seen l.rest) ≡ same_lists same_criterion (criteria_seen l.criteria) (criteria_seen l.others)
