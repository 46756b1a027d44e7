use Rattle.std.proofs.Common.{◌≡◌, ◌++◌, drop, map}
use Rattle.std.specs.List.{flat_map}
use Rattle.fhir_cert_check.specs.Asked.{base_profiles}
use Rattle.fhir_cert_check.proofs.asked.OwnEntry.base_profiles.Given as goal

abbrev pub invariant-loop-base : goal.invariant-loop-base
invariant-loop-base l =
    map (λ p. p.now) l.profiles.items ++ flat_map (base_profiles l.self.schema.now l.self.entry.now) (drop l.base-index l.bases)
    ≡ flat_map (base_profiles l.self.schema.now l.self.entry.now) l.bases
