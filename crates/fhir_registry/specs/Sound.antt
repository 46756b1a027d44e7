-- Words that the contracts of private functions alone cite: when what is kept is right by the definitions.
use Rattle.std.specs.Prelude.{◌≡◌, ◌⊎◌, IsSomeAnd, slice_get, List, [], Contains, filter, Bool, true, false, not, Option, None, Some, Vec}
use Rattle.std.specs.List.{list_any}
use Rattle.lru.specs.LruCache.{LruCache, lru_cache, put_entries}
use Rattle.fhir_json.specs.Tree.{Text, Tree}
use Rattle.fhir_package.specs.Definitions.{Definitions}
use Rattle.fhir_reach.specs.declared.key.Key.{Key}
use Rattle.fhir_reach.specs.Keys.{KeyValue, keys_seen, has_key, same_keys}
use Rattle.fhir_reach.specs.Reach.{restrict}
use Rattle.fhir_reach.specs.Search.{reached}
use Rattle.fhir_snapshot.specs.Completing.{Completes}
use Rattle.fhir_schema.specs.Schemas.{SchemaValue, schema_of}
use Rattle.fhir_commands.specs.Commands.{CommandValue, put, remove, validate, derive, asks_same, question_seen}
use Rattle.fhir_commands.specs.declared.question.Question.{Question}
use Rattle.fhir_commands.specs.Replies.{DeriveValue, ReplyValue, reply_seen, refuses}
use Rattle.fhir_commands.specs.Replies as replies
use Rattle.fhir_commands.specs.declared.reply.Standing.{Standing}
use Rattle.fhir_replies.specs.Judging.{IsJudged, IsJudgedAsGiven}
use Rattle.fhir_replies.specs.Deriving.{IsDeriveAnswer}
use Rattle.fhir_registry.specs.declared.kept.Kept.{Kept}
use Rattle.fhir_registry.specs.Session.{IsReplyBy, reach_of}

-- as a caller sees what is kept
abbrev pub entry_seen : Question × Kept ReplyValue → CommandValue × ReplyValue
entry_seen e = (question_seen e.0, e.1.value)

-- ---- what is answered by a schema

abbrev pub IsJudgedBy : Option (List Text) → SchemaValue → (profile bytes : Text) → Standing → Tree → Type 0
IsJudgedBy None s profile bytes standing outcome = IsJudged s profile bytes standing outcome
IsJudgedBy (Some texts) s profile bytes standing outcome = IsJudgedAsGiven s texts profile bytes standing outcome

abbrev pub IsAnswerBy : Option (List Text) → SchemaValue → CommandValue → ReplyValue → Type 0
IsAnswerBy texts s (put ts) reply = ⊥
IsAnswerBy texts s (remove url) reply = ⊥
IsAnswerBy texts s (validate profile bytes) reply =
    (standing : Standing) × (outcome : Tree) × IsJudgedBy texts s profile bytes standing outcome × (reply ≡ replies.validate standing outcome)
IsAnswerBy texts s (derive derived base) reply = (answer : DeriveValue) × IsDeriveAnswer s derived base answer × (reply ≡ replies.derive answer)

-- the schema of definitions, completed
abbrev pub IsSchemaOf : Definitions → SchemaValue → Type 0
IsSchemaOf p s = (completed : Definitions) × Completes p completed × (s ≡ schema_of completed)

-- ---- entries that are right

-- the schema is that of the definitions for which the keys stand, and is kept with these keys, in whatever order
pub record IsRightFor (p : Definitions) (keys : List KeyValue) (kept : Kept SchemaValue) : Type 0 where
  pub same : same_keys kept.keys keys ≡ true
  pub schema : IsSchemaOf (restrict p keys) kept.value

abbrev pub IsRightSchema : {Y : Type 0} → Definitions → Vec Key Y × Kept SchemaValue → Type 0
IsRightSchema p e = IsRightFor p (reached p (keys_seen e.0.items)) e.1

abbrev pub AreRightSchemas : {Y : Type 0} → Definitions → LruCache (Vec Key Y) (Kept SchemaValue) → Type 0
AreRightSchemas {Y} p cache = (e : Vec Key Y × Kept SchemaValue) → Contains cache.entries e → IsRightSchema p e

-- the first that is kept is the schema for what some keys reach
abbrev pub IsFirst : {Y : Type 0} → Definitions → List KeyValue → LruCache (Vec Key Y) (Kept SchemaValue) → Type 0
IsFirst p start cache = IsSomeAnd (slice_get cache.entries 0) (λ e. IsRightFor p (reached p start) e.1)

-- the reply is one to the question by the definitions, and no refusal, and is kept with the keys that the question reaches
pub record IsRightReply (texts : Option (List Text)) (p : Definitions) (e : Question × Kept ReplyValue) : Type 0 where
  pub same : same_keys e.1.keys (reach_of p (question_seen e.0)) ≡ true
  pub reply : IsReplyBy texts p (question_seen e.0) e.1.value
  pub answers : refuses e.1.value ≡ false

abbrev pub AreRightReplies : Option (List Text) → Definitions → LruCache Question (Kept ReplyValue) → Type 0
AreRightReplies texts p cache = (e : Question × Kept ReplyValue) → Contains cache.entries e → IsRightReply texts p e

-- the reply is kept under the question, with the keys; or nothing is
abbrev pub AddsReply : Question → ReplyValue → List KeyValue → LruCache Question (Kept ReplyValue) → LruCache Question (Kept ReplyValue) → Type 0
AddsReply q reply keys old new =
    (new ≡ old)
    ⊎ ((kept : Kept ReplyValue) × (kept.value ≡ reply) × (kept.keys ≡ keys)
    × (new ≡ lru_cache (put_entries (λ p r. asks_same (question_seen p) (question_seen r)) old q kept) old.cap))

-- a refusal isn't kept
abbrev pub KeepsNew : Question → ReplyValue → List KeyValue → LruCache Question (Kept ReplyValue) → LruCache Question (Kept ReplyValue) → Type 0
KeepsNew q reply keys old new = ((refuses reply ≡ true) × (new ≡ old)) ⊎ ((refuses reply ≡ false) × AddsReply q reply keys old new)

-- ---- what is left

-- what is kept reaches none of the keys
abbrev pub is_untouched : {A : Type 0} → List KeyValue → Kept A → Bool
is_untouched changed kept = not (list_any (has_key kept.keys) changed)

-- what reaches one of them is gone, or all is
abbrev pub Retains : {Q A : Type 0} → List KeyValue → LruCache Q (Kept A) → LruCache Q (Kept A) → Type 0
Retains changed old new = (new ≡ lru_cache (filter (λ e. is_untouched changed e.1) old.entries) old.cap) ⊎ (new ≡ lru_cache [] old.cap)

-- ---- the whole

-- All that is kept is right by the definitions, and there is room for 16 schemas and for 256 replies.
pub record IsSound {Y : Type 0} (texts : Option (List Text)) (p : Definitions) (schemas : LruCache (Vec Key Y) (Kept SchemaValue))
    (replies : LruCache Question (Kept ReplyValue)) : Type 0 where
  pub right_schemas : AreRightSchemas p schemas
  pub right_replies : AreRightReplies texts p replies
  pub schemas_bound : schemas.cap ≡ 16
  pub replies_bound : replies.cap ≡ 256
