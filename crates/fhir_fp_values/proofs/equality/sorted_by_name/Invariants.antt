use Rattle.std.proofs.Common.{◌≡◌, ◌++◌, drop}
use Rattle.fhir_instance.specs.View.{named_in}
use Rattle.fhir_fp_values.specs.Pairing.{kids_seen}
use Rattle.fhir_fp_values.proofs.equality.sorted_by_name.Given as goal

abbrev pub invariant-loop-kid : goal.invariant-loop-kid
invariant-loop-kid l = kids_seen l.sorted.items ++ named_in (drop l.kid-index l.kids) ≡ named_in l.kids
