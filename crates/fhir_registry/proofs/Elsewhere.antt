-- One set of definitions that are reached gives one set of replies.
use Rattle.std.proofs.Common.{◌≡◌, List, Option, None, Some, sym, subst, ap, ◌∙◌}
use Rattle.fhir_json.specs.Tree.{Text}
use Rattle.fhir_package.specs.Definitions.{Definitions}
use Rattle.fhir_reach.specs.Keys.{KeyValue}
use Rattle.fhir_reach.specs.Reach.{restrict}
use Rattle.fhir_snapshot.specs.Completing.{Completes}
use Rattle.fhir_schema.specs.Schemas.{SchemaValue}
use Rattle.fhir_commands.specs.Commands.{CommandValue, put, remove, validate, derive}
use Rattle.fhir_commands.specs.Replies.{ReplyValue}
use Rattle.fhir_registry.specs.Session.{reached_by, reached_between, IsJudgement, IsJudgementAsGiven, IsDerivation, IsReplyBy, IsQuestion, reach_of}
use Rattle.fhir_registry.specs.Sound.{IsSchemaOf, IsAnswerBy}

-- ---- by a schema

-- what is answered by the schema of what is reached is a reply
pub replies_by : (texts : Option (List Text)) (p : Definitions) (c : CommandValue) (s : SchemaValue) (reply : ReplyValue)
    → IsSchemaOf (restrict p (reach_of p c)) s → IsAnswerBy texts s c reply → IsReplyBy texts p c reply
replies_by texts p (put ts) s reply made answer = absurd answer
replies_by texts p (remove url) s reply made answer = absurd answer
replies_by None p (validate profile bytes) s reply made answer = record {
  completed = made.0;
  completes = made.1;
  standing = answer.0;
  outcome = answer.1;
  judged = rw (← made.2) answer.2;
  is_reply = answer.3;
}
replies_by (Some texts) p (validate profile bytes) s reply made answer = record {
  completed = made.0;
  completes = made.1;
  standing = answer.0;
  outcome = answer.1;
  judged = rw (← made.2) answer.2;
  is_reply = answer.3;
}
replies_by None p (derive derived base) s reply made answer = record {
  completed = made.0;
  completes = made.1;
  answer = answer.0;
  told = rw (← made.2) answer.1;
  is_reply = answer.2;
}
replies_by (Some texts) p (derive derived base) s reply made answer = record {
  completed = made.0;
  completes = made.1;
  answer = answer.0;
  told = rw (← made.2) answer.1;
  is_reply = answer.2;
}

-- ---- by other definitions

same_judgement : (p other : Definitions) (profile bytes : Text) (reply : ReplyValue) → reached_by p profile bytes ≡ reached_by other profile bytes
    → IsJudgement p profile bytes reply → IsJudgement other profile bytes reply
same_judgement p other profile bytes reply same j = record {
  completed = j.completed;
  completes = subst (λ (q : Definitions). Completes q j.completed) same j.completes;
  standing = j.standing;
  outcome = j.outcome;
  judged = j.judged;
  is_reply = j.is_reply;
}

same_judgement_as_given : (texts : List Text) (p other : Definitions) (profile bytes : Text) (reply : ReplyValue)
    → reached_by p profile bytes ≡ reached_by other profile bytes
    → IsJudgementAsGiven texts p profile bytes reply → IsJudgementAsGiven texts other profile bytes reply
same_judgement_as_given texts p other profile bytes reply same j = record {
  completed = j.completed;
  completes = subst (λ (q : Definitions). Completes q j.completed) same j.completes;
  standing = j.standing;
  outcome = j.outcome;
  judged = j.judged;
  is_reply = j.is_reply;
}

same_derivation : (p other : Definitions) (derived base : Text) (reply : ReplyValue) → reached_between p derived base ≡ reached_between other derived base
    → IsDerivation p derived base reply → IsDerivation other derived base reply
same_derivation p other derived base reply same d = record {
  completed = d.completed;
  completes = subst (λ (q : Definitions). Completes q d.completed) same d.completes;
  answer = d.answer;
  told = d.told;
  is_reply = d.is_reply;
}

-- where one restriction gives one reach
pub by_reach : (texts : Option (List Text)) (p other : Definitions) (c : CommandValue) (reply : ReplyValue) → IsQuestion c
    → restrict p (reach_of p c) ≡ restrict other (reach_of p c) → reach_of other c ≡ reach_of p c → IsReplyBy texts p c reply → IsReplyBy texts other c reply
by_reach texts p other c reply is same reach told = by texts c is (same ∙ ap (λ (keys : List KeyValue). restrict other keys) (sym reach)) told
  where
    by : (texts : Option (List Text)) (c : CommandValue) → IsQuestion c → restrict p (reach_of p c) ≡ restrict other (reach_of other c)
        → IsReplyBy texts p c reply → IsReplyBy texts other c reply
    by texts (put ts) is same told = absurd is
    by texts (remove url) is same told = absurd is
    by None (validate profile bytes) is same told = same_judgement p other profile bytes reply same told
    by (Some given) (validate profile bytes) is same told = same_judgement_as_given given p other profile bytes reply same told
    by None (derive derived base) is same told = same_derivation p other derived base reply same told
    by (Some given) (derive derived base) is same told = same_derivation p other derived base reply same told
