use Rattle.std.proofs.Common.{◌≡◌, drop}
use Rattle.std.specs.List.{find}
use Rattle.std.specs.FinSet as set
use Rattle.fhir_codes.proofs.concept_set.first_common.Given as goal

abbrev pub invariant-loop-concept : goal.invariant-loop-concept
invariant-loop-concept l = find (set.contains l.other) (drop l.concept-index l.concepts) ≡ find (set.contains l.other) l.concepts
