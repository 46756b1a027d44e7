use Rattle.std.proofs.Common.{string_bytes}
use Rattle.fhir_answers.specs.Replying.{reply_seen}
use Rattle.fhir_compare_engine.proofs.Promised.{answer_so}
use Rattle.fhir_compare_engine.proofs.running.reply_made.Goals as goal

pub returns : goal.returns
returns c = λ read files is_session is_found.
    let request = c.args.request.now in
    let new = c.in_ok-new.new in
    answer_so request.audience request.format c.args.old.now read files new.survey (string_bytes new.mark) new.types (reply_seen c.in_ok-reply.reply)
    is_session c.requires.old_right (rw is_found at c.requires.new_right) (rw is_found at c.in_ok-new.ensures) c.in_ok-reply.ensures
