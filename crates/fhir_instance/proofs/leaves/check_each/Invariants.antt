use Rattle.std.proofs.Common.{◌≡◌, None}
use Rattle.fhir_instance.specs.Found.{kids_found}
use Rattle.fhir_instance.proofs.leaves.check_each.Given as goal

abbrev pub invariant-loop-i : goal.invariant-loop-i
invariant-loop-i l = kids_found l.found ≡ None
