use Rattle.std.proofs.Common.{[]}
use Rattle.fhir_telling.specs.Questions.{question_seen}
use Rattle.fhir_telling.proofs.Pushed.{one_more, ended}
use Rattle.fhir_telling.proofs.own.push_judgements.Goals as goal

pub loop-profile-preserved : goal.loop-profile-preserved
loop-profile-preserved c =
    one_more (question_seen c.args.question) c.args.bytes.now c.args.profiles.now c.loop-profile.profile-index (record { ref_ptr = (0, 0); now = [] })
    c.args.into.now.items c.loop-profile.into.items _ c.in_ok-judgement_of.field-0 c.loop-profile-test.true c.in_ok-push.ensures.items
    c.in_ok-judgement_of.ensures c.loop-profile.invariant

pub returns : goal.returns
returns c =
    ended (question_seen c.args.question) c.args.bytes.now c.args.profiles.now c.loop-profile.profile-index c.args.into.now.items c.loop-profile.into.items
    c.loop-profile-test.false c.loop-profile.invariant
