use Rattle.std.proofs.Common.{◌≡◌, not, map, drop}
use Rattle.std.specs.List.{find}
use Rattle.fhir_compare.specs.Losing.{target_stays, lost_target}
use Rattle.fhir_compare.proofs.losing.lost_target.Given as goal

abbrev pub invariant-loop-target : goal.invariant-loop-target
invariant-loop-target l =
    find (λ target. not (target_stays l.sides.old_schema.now l.sides.schema.now target)) (map (λ n. n.now) (drop l.target-index l.target-items))
    ≡ lost_target l.sides.old_schema.now l.sides.schema.now l.profile.definition.now
