use Rattle.std.proofs.Common.{◌≡◌, drop}
use Rattle.fhir_cert_check.specs.Lists.{each_answers}
use Rattle.fhir_cert_check.specs.Rules.{entry_answers}
use Rattle.fhir_cert_check.specs.PairSet.{has_pair}
use Rattle.fhir_cert_check.proofs.items.each_answers.Given as goal

abbrev pub invariant-loop-entry : goal.invariant-loop-entry
invariant-loop-entry l =
    each_answers (entry_answers (has_pair l.pairs) l.schema) (drop l.entry-index l.owns) l.bases
    ≡ each_answers (entry_answers (has_pair l.pairs) l.schema) l.owns l.bases
