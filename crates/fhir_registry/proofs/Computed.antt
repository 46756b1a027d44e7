-- What is answered by the schema that is kept as the first is a reply.
use Rattle.std.proofs.Common.{List, Option, None, Some, Vec}
use Rattle.std.specs.Prelude.{Result, Ok, Err, IfOk, IsSomeAnd, slice_get}
use Rattle.lru.specs.LruCache.{LruCache}
use Rattle.fhir_json.specs.Tree.{Text}
use Rattle.fhir_package.specs.Definitions.{Definitions}
use Rattle.fhir_reach.specs.declared.key.Key.{Key}
use Rattle.fhir_schema.specs.Schemas.{SchemaValue}
use Rattle.fhir_commands.specs.Commands.{question_seen}
use Rattle.fhir_commands.specs.declared.question.Question.{Question}
use Rattle.fhir_commands.specs.Replies.{ReplyValue, reply_seen}
use Rattle.fhir_commands.specs.declared.reply.Reply.{Reply}
use Rattle.fhir_registry.specs.declared.kept.Kept.{Kept}
use Rattle.fhir_registry.specs.Session.{IsReplyBy, starts_by, reach_of}
use Rattle.fhir_registry.specs.Sound.{IsAnswerBy, IsRightFor, IsFirst, KeepsNew}
use Rattle.fhir_registry.proofs.Elsewhere.{replies_by}

pub replied : {E Y : Type 0} (r : Result Reply E) (texts : Option (List Text)) (p : Definitions) (q : Question) (cache : LruCache (Vec Key Y) (Kept SchemaValue))
    (old new : LruCache Question (Kept ReplyValue)) → IsFirst p (starts_by (question_seen q)) cache
    → IfOk r (λ reply. IsSomeAnd (slice_get cache.entries 0) (λ e. IsAnswerBy texts e.1.value (question_seen q) (reply_seen reply) × KeepsNew q (reply_seen reply) e.1.keys old new))
    → IfOk r (λ reply. IsReplyBy texts p (question_seen q) (reply_seen reply))
replied (Err e) texts p q cache old new first answered = tt
replied {E} {Y} (Ok reply) texts p q cache old new first answered = by (slice_get cache.entries 0) first answered
  where
    by : (o : Option (Vec Key Y × Kept SchemaValue)) → IsSomeAnd o (λ e. IsRightFor p (reach_of p (question_seen q)) e.1)
        → IsSomeAnd o (λ e. IsAnswerBy texts e.1.value (question_seen q) (reply_seen reply) × KeepsNew q (reply_seen reply) e.1.keys old new)
        → IsReplyBy texts p (question_seen q) (reply_seen reply)
    by None first answered = absurd first
    by (Some e) first answered = replies_by texts p (question_seen q) e.1.value (reply_seen reply) first.schema answered.0
