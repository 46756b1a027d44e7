use Rattle.std.proofs.Common.{◌≡◌, ◌++◌, drop, map, string_bytes}
use Rattle.std.specs.List.{flat_map}
use Rattle.fhir_schema.specs.Schemas.{loaded}
use Rattle.fhir_cert_check.specs.Asked.{kids_asked}
use Rattle.fhir_cert_check.proofs.asked.OwnEntry.put_profiles_kids.Given as goal

abbrev pub invariant-loop-profile : goal.invariant-loop-profile
invariant-loop-profile l =
    l.asked.items ++ flat_map (λ p. kids_asked l.base (loaded l.self.schema.now p)) (map string_bytes (drop l.profile-index l.profile-items))
    ≡ l.initial.asked.items ++ flat_map (λ p. kids_asked l.base (loaded l.self.schema.now p)) (map string_bytes l.profile-items)
