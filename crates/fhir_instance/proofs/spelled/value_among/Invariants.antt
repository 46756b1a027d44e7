use Rattle.std.proofs.Common.{◌≡◌, drop}
use Rattle.fhir_instance.specs.Spelled.{value_among}
use Rattle.fhir_instance.proofs.spelled.value_among.Given as goal

abbrev pub invariant-loop-i : goal.invariant-loop-i
invariant-loop-i l = value_among (drop l.i l.all) ≡ value_among l.all
