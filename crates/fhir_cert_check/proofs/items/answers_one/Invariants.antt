use Rattle.std.proofs.Common.{◌≡◌, drop}
use Rattle.std.specs.List.{list_any}
use Rattle.fhir_cert_check.specs.Rules.{entry_answers}
use Rattle.fhir_cert_check.specs.PairSet.{has_pair}
use Rattle.fhir_cert_check.proofs.items.answers_one.Given as goal

abbrev pub invariant-loop-base : goal.invariant-loop-base
invariant-loop-base l =
    list_any (λ base. entry_answers (has_pair l.pairs) l.schema l.entry base) (drop l.base-index l.bases)
    ≡ list_any (λ base. entry_answers (has_pair l.pairs) l.schema l.entry base) l.bases
