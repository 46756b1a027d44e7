use Rattle.std.proofs.Common.{◌≡◌, ◌++◌, drop, map}
use Rattle.fhir_cert_check.specs.Asked.{roots_asked}
use Rattle.fhir_cert_check.proofs.asked.OwnEntry.put_own.Given as goal

abbrev pub invariant-loop-base : goal.invariant-loop-base
invariant-loop-base l =
    l.asked.items ++ roots_asked l.self.schema.now (map (λ p. p.now) (drop l.base-index l.bases)) l.own
    ≡ l.initial.asked.items ++ roots_asked l.self.schema.now (map (λ p. p.now) l.bases) l.own
