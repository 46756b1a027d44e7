-- A session from scratch: what a command leaves of the definitions that a registry holds, and what is a reply to it.
use Rattle.std.specs.Prelude.{◌≡◌, List, [], ◌∷◌, Option, None, Some, if◌then◌else◌}
use Rattle.std.specs.Option.{option_map, option_map_or, option_and_then}
use Rattle.std.specs.Result.{result_ok}
use Rattle.fhir_json.specs.Tree.{Text, Tree}
use Rattle.fhir_json.specs.Reading.{reading}
use Rattle.fhir_package.specs.Definitions.{Definitions}
use Rattle.fhir_package.specs.Packing.{Definition}
use Rattle.fhir_package.specs.Changing.{sound_definition, has_twice, put_each, without, has_url}
use Rattle.fhir_reach.specs.Keys.{KeyValue, of_url}
use Rattle.fhir_reach.specs.Reach.{restrict, all_put_keys, removed_keys}
use Rattle.fhir_reach.specs.Search.{reached}
use Rattle.fhir_reach.specs.Starting.{starts_of}
use Rattle.fhir_snapshot.specs.Completing.{Completes}
use Rattle.fhir_schema.specs.Schemas.{schema_of}
use Rattle.fhir_commands.specs.Commands.{CommandValue, put, remove, validate, derive}
use Rattle.fhir_commands.specs.Replies.{DeriveValue, ReplyValue}
use Rattle.fhir_commands.specs.Replies as replies
use Rattle.fhir_commands.specs.declared.reply.PutAnswer.{PutAnswer}
use Rattle.fhir_commands.specs.declared.reply.PutAnswer.TheVariants as puts
use Rattle.fhir_commands.specs.declared.reply.RemoveAnswer.{RemoveAnswer}
use Rattle.fhir_commands.specs.declared.reply.RemoveAnswer.TheVariants as removes
use Rattle.fhir_commands.specs.declared.reply.Standing.{Standing}
use Rattle.fhir_replies.specs.Judging.{IsJudged, IsJudgedAsGiven}
use Rattle.fhir_replies.specs.Deriving.{IsDeriveAnswer}

-- ---- definitions that are to be put in

-- the definitions that trees are, where each is a sound one
abbrev pub definitions_of : List Tree → Option (List Definition)
definitions_of [] = Some []
definitions_of (t ∷ ts) = option_and_then (λ d. option_map (λ ds. d ∷ ds) (definitions_of ts)) (sound_definition t)

-- one that is none comes before one that is there twice
abbrev pub put_answer : Option (List Definition) → PutAnswer
put_answer None = puts.NoDefinition
put_answer (Some ds) = if has_twice ds then puts.Twice else puts.Done

-- all are put in, or none
abbrev pub put_after : Option (List Definition) → Definitions → Definitions
put_after None p = p
put_after (Some ds) p = if has_twice ds then p else put_each ds p

-- ---- what a command leaves

abbrev pub after : CommandValue → Definitions → Definitions
after (put ts) p = put_after (definitions_of ts) p
after (remove url) p = without url p
after (validate profile bytes) p = p
after (derive derived base) p = p

-- ---- replies

abbrev pub remove_answer : Text → Definitions → RemoveAnswer
remove_answer url p = if has_url url p then removes.Done else removes.Absent

-- the keys with which a validation begins: those of the resource that the bytes are; of bytes that are none, the profile
abbrev pub starts : Text → Text → List KeyValue
starts profile bytes = option_map_or (starts_of profile) (result_ok (reading bytes)) (of_url profile ∷ [])

-- the definitions that it reaches, on which its reply rests
abbrev pub reached_by : Definitions → Text → Text → Definitions
reached_by p profile bytes = restrict p (reached p (starts profile bytes))

-- The resource that the bytes are is judged by the definitions that are reached, completed.
pub record IsJudgement (p : Definitions) (profile bytes : Text) (reply : ReplyValue) : Type 0 where
  pub completed : Definitions
  pub completes : Completes (reached_by p profile bytes) completed
  pub standing : Standing
  pub outcome : Tree
  pub judged : IsJudged (schema_of completed) profile bytes standing outcome
  pub is_reply : reply ≡ replies.validate standing outcome

-- the keys with which a derivation begins: the two profiles
abbrev pub ends : (derived base : Text) → List KeyValue
ends derived base = of_url derived ∷ of_url base ∷ []

-- the definitions that they reach, on which its reply rests
abbrev pub reached_between : Definitions → (derived base : Text) → Definitions
reached_between p derived base = restrict p (reached p (ends derived base))

-- What comes of two profiles is told by the definitions that are reached, completed.
pub record IsDerivation (p : Definitions) (derived base : Text) (reply : ReplyValue) : Type 0 where
  pub completed : Definitions
  pub completes : Completes (reached_between p derived base) completed
  pub answer : DeriveValue
  pub told : IsDeriveAnswer (schema_of completed) derived base answer
  pub is_reply : reply ≡ replies.derive answer

abbrev pub IsReply : Definitions → CommandValue → ReplyValue → Type 0
IsReply p (put ts) reply = reply ≡ replies.put (put_answer (definitions_of ts))
IsReply p (remove url) reply = reply ≡ replies.remove (remove_answer url p)
IsReply p (validate profile bytes) reply = IsJudgement p profile bytes reply
IsReply p (derive derived base) reply = IsDerivation p derived base reply

-- ---- where a user vouches for unread rules by their texts

-- the same of a resource, judged as the given rules hold
pub record IsJudgementAsGiven (texts : List Text) (p : Definitions) (profile bytes : Text) (reply : ReplyValue) : Type 0 where
  pub completed : Definitions
  pub completes : Completes (reached_by p profile bytes) completed
  pub standing : Standing
  pub outcome : Tree
  pub judged : IsJudgedAsGiven (schema_of completed) texts profile bytes standing outcome
  pub is_reply : reply ≡ replies.validate standing outcome

-- and of any other command what is replied without them
abbrev pub IsReplyAsGiven : List Text → Definitions → CommandValue → ReplyValue → Type 0
IsReplyAsGiven texts p (put ts) reply = IsReply p (put ts) reply
IsReplyAsGiven texts p (remove url) reply = IsReply p (remove url) reply
IsReplyAsGiven texts p (validate profile bytes) reply = IsJudgementAsGiven texts p profile bytes reply
IsReplyAsGiven texts p (derive derived base) reply = IsReply p (derive derived base) reply

-- by the texts of the unread rules for which a user vouches, if one does
abbrev pub IsReplyBy : Option (List Text) → Definitions → CommandValue → ReplyValue → Type 0
IsReplyBy None p c reply = IsReply p c reply
IsReplyBy (Some texts) p c reply = IsReplyAsGiven texts p c reply

-- ---- on what a reply rests

-- the command asks for what definitions say, and leaves them as they are
abbrev pub IsQuestion : CommandValue → Type 0
IsQuestion (put ts) = ⊥
IsQuestion (remove url) = ⊥
IsQuestion (validate profile bytes) = Unit {0}
IsQuestion (derive derived base) = Unit {0}

-- the keys with which a question begins
abbrev pub starts_by : CommandValue → List KeyValue
starts_by (put ts) = []
starts_by (remove url) = []
starts_by (validate profile bytes) = starts profile bytes
starts_by (derive derived base) = ends derived base

-- the keys that it reaches
abbrev pub reach_of : Definitions → CommandValue → List KeyValue
reach_of p c = reached p (starts_by c)

-- the definitions that are put in, which are all of them or none
abbrev pub accepted : Option (List Definition) → List Definition
accepted None = []
accepted (Some ds) = if has_twice ds then [] else ds

-- the keys of the definitions that a command changes, old and new
abbrev pub changed_by : Definitions → CommandValue → List KeyValue
changed_by p (put ts) = all_put_keys (accepted (definitions_of ts)) p
changed_by p (remove url) = removed_keys url p
changed_by p (validate profile bytes) = []
changed_by p (derive derived base) = []

-- ---- lists of commands, from the left

abbrev pub after_all : List CommandValue → Definitions → Definitions
after_all [] p = p
after_all (c ∷ cs) p = after_all cs (after c p)

-- each reply is one to its command, by the definitions that those before it leave
abbrev pub AreRepliesBy : Option (List Text) → Definitions → List CommandValue → List ReplyValue → Type 0
AreRepliesBy texts p [] rs = rs ≡ []
AreRepliesBy texts p (c ∷ cs) rs =
    (r : ReplyValue) × (others : List ReplyValue) × (rs ≡ r ∷ others) × IsReplyBy texts p c r × AreRepliesBy texts (after c p) cs others
