use Rattle.std.proofs.Common.{append_assoc}
use Rattle.std.proofs.Output.{has_written_of_eq}
use Rattle.fhir_findings.proofs.counting.CountsDisplay.fmt.Goals as goal

pub returns-clause-writes : goal.returns-clause-writes
returns-clause-writes g c plain ok =
    has_written_of_eq _ _ _ _ _ (simp append_assoc) (rw (c.unusable.ensures, c.unread.ensures) at (c.write.ensures.writes plain ok))
