use Rattle.std.proofs.Common.{◌≡◌, [], IfOk, sym, subst}
use Rattle.fhir_answers.specs.Promising.{PromisedOf}
use Rattle.fhir_answers.specs.Replying.{reply_seen, status_of}
use Rattle.fhir_answers.specs.Views.{bytes_seen}
use Rattle.fhir_words.specs.Views.{request_seen}
use Rattle.fhir_answers.proofs.session.Session.answer_of.Goals as goal

pub returns-in-Validate-clause-promised : goal.returns-in-Validate-clause-promised
returns-in-Validate-clause-promised c =
    subst
    (λ q. IfOk c.validate.result
    (λ r. status_of (reply_seen r) ≡ 0 → (c.args.self.now.survey.faults ≡ [])
    × PromisedOf (request_seen q) c.args.self.now.survey.definitions (bytes_seen c.args.first) (bytes_seen c.args.second)))
    (sym c.in-Validate.is) c.validate.ensures.promised

pub returns-in-Derive-clause-promised : goal.returns-in-Derive-clause-promised
returns-in-Derive-clause-promised c =
    subst
    (λ q. IfOk c.derive.result
    (λ r. status_of (reply_seen r) ≡ 0 → (c.args.self.now.survey.faults ≡ [])
    × PromisedOf (request_seen q) c.args.self.now.survey.definitions (bytes_seen c.args.first) (bytes_seen c.args.second)))
    (sym c.in-Derive.is) c.derive.ensures.promised

pub returns-in-ValidateGiven-clause-promised : goal.returns-in-ValidateGiven-clause-promised
returns-in-ValidateGiven-clause-promised c =
    subst
    (λ q. IfOk c.validate_given.result
    (λ r. status_of (reply_seen r) ≡ 0 → (c.args.self.now.survey.faults ≡ [])
    × PromisedOf (request_seen q) c.args.self.now.survey.definitions (bytes_seen c.args.first) (bytes_seen c.args.second)))
    (sym c.in-ValidateGiven.is) c.validate_given.ensures.promised

pub returns-in-Counter-clause-promised : goal.returns-in-Counter-clause-promised
returns-in-Counter-clause-promised c =
    subst
    (λ q. IfOk c.counter.result
    (λ r. status_of (reply_seen r) ≡ 0 → (c.args.self.now.survey.faults ≡ [])
    × PromisedOf (request_seen q) c.args.self.now.survey.definitions (bytes_seen c.args.first) (bytes_seen c.args.second)))
    (sym c.in-Counter.is) c.counter.ensures.promised

pub returns-in-CounterGiven-clause-promised : goal.returns-in-CounterGiven-clause-promised
returns-in-CounterGiven-clause-promised c =
    subst
    (λ q. IfOk c.counter_given.result
    (λ r. status_of (reply_seen r) ≡ 0 → (c.args.self.now.survey.faults ≡ [])
    × PromisedOf (request_seen q) c.args.self.now.survey.definitions (bytes_seen c.args.first) (bytes_seen c.args.second)))
    (sym c.in-CounterGiven.is) c.counter_given.ensures.promised
