use Rattle.std.proofs.Common.{◌≡◌, not, map, drop}
use Rattle.std.specs.List.{find}
use Rattle.fhir_alike.specs.Naming.{profile_stays}
use Rattle.fhir_compare.specs.Losing.{lost_profile}
use Rattle.fhir_compare.proofs.losing.lost_profile.Given as goal

abbrev pub invariant-loop-name : goal.invariant-loop-name
invariant-loop-name l =
    find (λ name. not (profile_stays l.sides.old.now l.sides.new.now name)) (map (λ n. n.now) (drop l.name-index l.name-items))
    ≡ lost_profile l.sides.old.now l.sides.new.now l.profile.definition.now
