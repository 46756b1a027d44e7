use Rattle.std.proofs.Common.{◌≡◌, drop, map, string_bytes}
use Rattle.std.specs.Prelude.{is_some}
use Rattle.std.specs.List.{list_all}
use Rattle.fhir_schema.specs.Schemas.{loaded}
use Rattle.fhir_cert_check.proofs.asked.OwnEntry.are_loaded.Given as goal

abbrev pub invariant-loop-profile : goal.invariant-loop-profile
invariant-loop-profile l =
    list_all (λ p. is_some (loaded l.self.schema.now p)) (map string_bytes (drop l.profile-index l.profile-items))
    ≡ list_all (λ p. is_some (loaded l.self.schema.now p)) (map string_bytes l.profile-items)
