use Rattle.std.proofs.Common.{◌≡◌, map, drop, Some}
use Rattle.fhir_schema.specs.Lineages.{after}
use Rattle.fhir_schema.proofs.lineage.Lineage.after.Given as goal

abbrev pub invariant-loop-power : goal.invariant-loop-power
invariant-loop-power l =
    after (map (λ v. v.items) (drop l.power-index l.power-items)) l.left l.place ≡ after (map (λ v. v.items) l.power-items) l.steps (Some l.start)
