use Rattle.std.proofs.Common.{◌≡◌, drop, map, string_bytes}
use Rattle.std.specs.List.{list_any}
use Rattle.fhir_cert_check.specs.Rules.{profile_answers}
use Rattle.fhir_cert_check.specs.PairSet.{has_pair}
use Rattle.fhir_cert_check.proofs.items.answers_one_profile.Given as goal

abbrev pub invariant-loop-base : goal.invariant-loop-base
invariant-loop-base l =
    list_any (λ base. profile_answers (has_pair l.pairs) l.schema l.own base) (map string_bytes (drop l.base-index l.bases))
    ≡ list_any (λ base. profile_answers (has_pair l.pairs) l.schema l.own base) (map string_bytes l.bases)
