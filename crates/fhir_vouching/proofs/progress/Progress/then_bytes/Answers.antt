use Rattle.std.proofs.Common.{◌∙◌}
use Rattle.fhir_vouching.proofs.Pieces.{stays, no_front, piece_decides, taken}
use Rattle.fhir_vouching.proofs.progress.Progress.then_bytes.Goals as goal

pub returns-in-Some : goal.returns-in-Some
returns-in-Some c fed text h =
    let is = rw c.in-Left.is at h in
    taken text fed c.in-Left.text.now c.args.piece.now c.in-Some.rest.now is c.in-Some.ensures.cases.0 c.in-Some.ensures.cases.1

pub returns-in-None : goal.returns-in-None
returns-in-None c fed text h =
    let is = rw c.in-Left.is at h in (
      no_front text fed c.in-Left.text.now c.args.piece.now is c.in-None.ensures.cases,
      c.cmp.ensures ∙ piece_decides text fed c.in-Left.text.now c.args.piece.now is,
    )

pub returns-in-Decided : goal.returns-in-Decided
returns-in-Decided c = rw c.in-Decided.is (stays c.in-Decided.order c.args.piece.now)
