use Rattle.std.proofs.Common.{◌≡◌, ◌++◌, drop, map, string_bytes}
use Rattle.std.specs.List.{flat_map}
use Rattle.fhir_cert_check.specs.Asked.{roots_asked}
use Rattle.fhir_cert_check.proofs.asked.OwnEntry.put_owns.Given as goal

abbrev pub invariant-loop-own : goal.invariant-loop-own
invariant-loop-own l =
    l.asked.items ++ flat_map (roots_asked l.self.schema.now (map (λ p. p.now) l.bases)) (map string_bytes (drop l.own-index l.own-items))
    ≡ l.initial.asked.items ++ flat_map (roots_asked l.self.schema.now (map (λ p. p.now) l.bases)) (map string_bytes l.own-items)
