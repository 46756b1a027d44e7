use Rattle.std.proofs.Common.{◌≡◌, drop, map, string_bytes}
use Rattle.fhir_cert_check.specs.Lists.{each_answers}
use Rattle.fhir_cert_check.specs.Rules.{profile_answers}
use Rattle.fhir_cert_check.specs.PairSet.{has_pair}
use Rattle.fhir_cert_check.proofs.items.each_profile_answers.Given as goal

abbrev pub invariant-loop-own : goal.invariant-loop-own
invariant-loop-own l =
    each_answers (profile_answers (has_pair l.pairs) l.schema) (map string_bytes (drop l.own-index l.owns)) (map string_bytes l.bases)
    ≡ each_answers (profile_answers (has_pair l.pairs) l.schema) (map string_bytes l.owns) (map string_bytes l.bases)
