use Rattle.fhir_findings.specs.Seeking.{said_for}
use Rattle.fhir_findings.specs.Sentences.{first_said}
use Rattle.fhir_findings.specs.Views.{carrier_seen, wordings_seen}
use Rattle.fhir_findings.proofs.Wordings.{next_said}
use Rattle.fhir_findings.proofs.saying.first_said.Goals as goal

pub loop-wording-preserved : goal.loop-wording-preserved
loop-wording-preserved c =
    next_said (said_for (carrier_seen c.args.carrier.now)) c.args.wordings.now c.loop-wording.wording-index _
    (first_said (said_for (carrier_seen c.args.carrier.now)) (wordings_seen c.args.wordings.now)) c.loop-wording-test.true
    c.in_default.ensures c.loop-wording.invariant
