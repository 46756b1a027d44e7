use Rattle.std.proofs.Common.{[]}
use Rattle.fhir_audit.specs.Asked.{profile_in}
use Rattle.fhir_audit.specs.Marks.{marked}
use Rattle.fhir_audit.specs.Placing.{all_placed}
use Rattle.fhir_findings.proofs.Each.{next_place}
use Rattle.fhir_audit.proofs.auditing.marked_profiles.Goals as goal

pub loop-place-preserved : goal.loop-place-preserved
loop-place-preserved c =
    next_place (profile_in (marked c.args.marks.now)) c.args.«package».now.structure_definitions
    c.loop-place.place [] (all_placed c.loop-place.profiles.items) (all_placed c.push_profile.new.into.items) c.loop-place.invariant
    c.in_ok-push_profile.ensures
