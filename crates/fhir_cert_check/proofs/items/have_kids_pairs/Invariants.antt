use Rattle.std.proofs.Common.{◌≡◌, false, drop, map, string_bytes}
use Rattle.std.specs.List.{list_all}
use Rattle.std.specs.Option.{option_map_or}
use Rattle.fhir_schema.specs.Schemas.{loaded}
use Rattle.fhir_cert_check.specs.Rules.{has_kids_pair}
use Rattle.fhir_cert_check.specs.PairSet.{has_pair}
use Rattle.fhir_cert_check.proofs.items.have_kids_pairs.Given as goal

abbrev pub invariant-loop-profile : goal.invariant-loop-profile
invariant-loop-profile l =
    list_all (λ p. option_map_or (λ root. has_kids_pair (has_pair l.pairs) root l.base) (loaded l.schema p) false) (map string_bytes (drop l.profile-index l.profiles))
    ≡ list_all (λ p. option_map_or (λ root. has_kids_pair (has_pair l.pairs) root l.base) (loaded l.schema p) false) (map string_bytes l.profiles)
