use Rattle.fhir_findings.specs.Sentences.{wordings_of}
use Rattle.fhir_findings.specs.Views.{wordings_seen}
use Rattle.fhir_findings.proofs.Each.{next_item}
use Rattle.fhir_findings.proofs.saying.all_wordings.Goals as goal

pub loop-place-preserved : goal.loop-place-preserved
loop-place-preserved c =
    next_item wordings_of c.args.package.now.structure_definitions c.loop-place.place (wordings_seen c.loop-place.all.items)
    (wordings_seen c.push_at.new.into.items) c.loop-place.invariant c.in_ok-push_at.ensures
