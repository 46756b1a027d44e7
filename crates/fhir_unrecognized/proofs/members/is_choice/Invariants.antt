use Rattle.std.proofs.Common.{◌≡◌, length}
use Rattle.fhir_json.specs.Fields.{is_choice}
use Rattle.fhir_unrecognized.proofs.members.is_choice.Given as goal

abbrev pub invariant-loop-stem : goal.invariant-loop-stem
invariant-loop-stem l = is_choice l.stem l.name ≡ is_choice l.initial.stem l.initial.name

abbrev pub decreases-loop-stem : goal.decreases-loop-stem
decreases-loop-stem l = length l.stem
