use Rattle.std.proofs.Common.{◌≡◌, ◌+◌, drop}
use Rattle.fhir_instance.specs.Spelled.{count_front}
use Rattle.fhir_instance.proofs.spelled.count_front.Given as goal

abbrev pub invariant-loop-i : goal.invariant-loop-i
invariant-loop-i l = l.i + count_front l.form (drop l.i l.all) ≡ count_front l.form l.all
