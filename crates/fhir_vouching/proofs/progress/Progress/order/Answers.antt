use Rattle.std.proofs.Common.{sym, ◌∙◌}
use Rattle.fhir_vouching.proofs.Pieces.{all_come, more_left}
use Rattle.fhir_vouching.proofs.progress.Progress.order.Goals as goal

pub returns-in-Left : goal.returns-in-Left
returns-in-Left c fed text h = all_come text fed c.in-Left.rest.now (rw c.in-Left.is at h) (sym c.if-is_empty.true ∙ c.is_empty.ensures)

pub returns-in-Left-2 : goal.returns-in-Left-2
returns-in-Left-2 c fed text h = more_left text fed c.in-Left.rest.now (rw c.in-Left.is at h) (sym c.if-is_empty.false ∙ c.is_empty.ensures)
