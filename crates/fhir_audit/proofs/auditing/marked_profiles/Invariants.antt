use Rattle.std.proofs.Common.{◌≡◌, take}
use Rattle.std.specs.List.{flat_map, enumerate_from}
use Rattle.fhir_audit.specs.Asked.{profile_in}
use Rattle.fhir_audit.specs.Marks.{marked}
use Rattle.fhir_audit.specs.Placing.{all_placed}
use Rattle.fhir_audit.proofs.auditing.marked_profiles.Given as goal

abbrev pub invariant-loop-place : goal.invariant-loop-place
invariant-loop-place l =
    all_placed l.profiles.items
    ≡ flat_map (profile_in (marked l.marks)) (enumerate_from 0 (take l.place l.package.structure_definitions))
