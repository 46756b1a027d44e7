use Rattle.fhir_registry.proofs.Right.{adds_reply}
use Rattle.fhir_registry.proofs.replies.keep.Goals as goal

pub returns-in-Ok : goal.returns-in-Ok
returns-in-Ok c =
    adds_reply c.put.result c.equal_questions.ensures c.args.question c.in-Ok.kept _ _ c.args.replies.now c.put.new.self c.put.ensures.entries c.put.ensures.err
    c.in-Ok.ensures.reply c.in-Ok.ensures.keys
