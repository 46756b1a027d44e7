use Rattle.std.proofs.Common.{take}
use Rattle.fhir_findings.specs.Seeking.{AreSaid}
use Rattle.fhir_findings.specs.Views.{wordings_seen, texts_seen, firsts_seen}
use Rattle.fhir_findings.proofs.saying.seek.Given as goal

abbrev pub invariant-loop-wording : goal.invariant-loop-wording
invariant-loop-wording l =
    AreSaid l.sought.expressions l.sought.keys (firsts_seen l.told) (texts_seen l.found.items) (wordings_seen (take l.wording-index l.wordings))
