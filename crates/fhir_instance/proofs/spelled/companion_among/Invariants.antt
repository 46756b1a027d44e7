use Rattle.std.proofs.Common.{◌≡◌, drop}
use Rattle.fhir_instance.specs.Spelled.{companion_among}
use Rattle.fhir_instance.proofs.spelled.companion_among.Given as goal

abbrev pub invariant-loop-i : goal.invariant-loop-i
invariant-loop-i l = companion_among (drop l.i l.all) ≡ companion_among l.all
