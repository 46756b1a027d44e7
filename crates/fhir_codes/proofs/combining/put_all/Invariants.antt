use Rattle.std.proofs.Common.{◌≡◌, ◌++◌, take}
use Rattle.fhir_codes.proofs.combining.put_all.Given as goal

abbrev pub invariant-loop-concept : goal.invariant-loop-concept
invariant-loop-concept l = l.out.items ≡ l.initial.out.items ++ take l.concept-index l.concepts
