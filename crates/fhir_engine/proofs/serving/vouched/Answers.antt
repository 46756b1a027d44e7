use Rattle.std.proofs.Common.{ap}
use Rattle.std.proofs.lemmas.Result.{IfOk-weaker}
use Rattle.fhir_unread.specs.Given.{texts_given, AreSame}
use Rattle.fhir_answers.specs.Views.{bytes_seen}
use Rattle.fhir_engine.specs.Serving.{AreTexts}
use Rattle.fhir_engine.proofs.serving.vouched.Goals as goal

pub returns-in-Some-clause-given : goal.returns-in-Some-clause-given
returns-in-Some-clause-given c =
    let bytes = c.in-Some.bytes.now in
    IfOk-weaker c.vouched_by.result (λ given. AreSame given.vouching (texts_given bytes))
    (λ given. AreTexts (bytes_seen c.args.file.bytes) given.vouching) (λ given same. (bytes, ap bytes_seen c.in-Some.is, same)) c.vouched_by.ensures.given
