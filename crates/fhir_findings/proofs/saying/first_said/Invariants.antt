use Rattle.std.proofs.Common.{◌≡◌, drop}
use Rattle.fhir_findings.specs.Seeking.{said_for}
use Rattle.fhir_findings.specs.Sentences.{first_said}
use Rattle.fhir_findings.specs.Views.{carrier_seen, wordings_seen}
use Rattle.fhir_findings.proofs.saying.first_said.Given as goal

abbrev pub invariant-loop-wording : goal.invariant-loop-wording
invariant-loop-wording l =
    first_said (said_for (carrier_seen l.carrier)) (wordings_seen (drop l.wording-index l.wordings))
    ≡ first_said (said_for (carrier_seen l.carrier)) (wordings_seen l.wordings)
