use Rattle.fhir_findings.proofs.Each.{next_item}
use Rattle.fhir_unread.specs.Sayings.{sayings_of}
use Rattle.fhir_unread.specs.Seen.{sayings_seen}
use Rattle.fhir_unread.proofs.saying.all_sayings.Goals as goal

pub loop-place-preserved : goal.loop-place-preserved
loop-place-preserved c =
    next_item sayings_of c.args.package.now.structure_definitions c.loop-place.place (sayings_seen c.loop-place.all.items)
    (sayings_seen c.push_at.new.into.items) c.loop-place.invariant c.in_ok-push_at.ensures
