use Rattle.std.proofs.Common.{◌≡◌, ◌++◌, drop, map, string_bytes}
use Rattle.fhir_cert_check.proofs.asked.OwnEntry.put_base_profiles.Given as goal

abbrev pub invariant-loop-profile : goal.invariant-loop-profile
invariant-loop-profile l =
    map (λ p. p.now) l.profiles.items ++ map string_bytes (drop l.profile-index l.profile-items)
    ≡ map (λ p. p.now) l.initial.profiles.items ++ map string_bytes l.profile-items
