-- What a registry holds: definitions, and replies that it keeps so that a question which is asked again is answered at once.
use Rattle.std.specs.Prelude.{◌≡◌, ◌⊎◌, List, [], ◌∷◌, filter, take, false, not, Option, None, Some}
use Rattle.std.specs.List.{list_any}
use Rattle.std.specs.Map.{lookup}
use Rattle.lru.specs.LruCache.{promoted}
use Rattle.fhir_json.specs.Tree.{Text}
use Rattle.fhir_package.specs.Definitions.{Definitions}
use Rattle.fhir_reach.specs.Keys.{KeyValue, has_key}
use Rattle.fhir_commands.specs.Commands.{CommandValue, put, remove, validate, derive, asks_same}
use Rattle.fhir_commands.specs.Replies.{ReplyValue, refuses}
use Rattle.fhir_registry.specs.Session.{reach_of, changed_by}

-- questions with the replies to them, the last used first
abbrev pub KeptReplies : Type 0
KeptReplies = List (CommandValue × ReplyValue)

-- the definitions as they stand, the texts of the unread rules for which a user vouches, if one does, and the replies that are kept
pub record RegistryValue : Type 0 where
  pub definitions : Definitions
  pub texts : Option (List Text)
  pub replies : KeptReplies

-- the reply that is kept to a command
abbrev pub reply_kept : CommandValue → KeptReplies → Option ReplyValue
reply_kept c kept = lookup (asks_same c) kept

-- of the replies that are kept those whose question reaches none of some keys
abbrev pub left_by : Definitions → List KeyValue → KeptReplies → KeptReplies
left_by p changed kept = filter (λ e. not (list_any (has_key (reach_of p e.0)) changed)) kept

-- A change of these keys takes out the others; or all, as where memory is refused for that.
abbrev pub ForgetsAll : Definitions → List KeyValue → KeptReplies → KeptReplies → Type 0
ForgetsAll p changed old new = (new ≡ left_by p changed old) ⊎ (new ≡ [])

-- so does a command by the keys that it changes
abbrev pub Forgets : Definitions → CommandValue → KeptReplies → KeptReplies → Type 0
Forgets p c old new = ForgetsAll p (changed_by p c) old new

-- A reply that is found goes first. Another that is no refusal is kept as the first, and the last of 256 goes; or nothing changes, as for a
-- refusal and where memory is refused.
abbrev pub KeepsFor : CommandValue → ReplyValue → Option ReplyValue → KeptReplies → KeptReplies → Type 0
KeepsFor c reply (Some found) old new = new ≡ promoted (asks_same c) old
KeepsFor c reply None old new = (new ≡ old) ⊎ ((refuses reply ≡ false) × (new ≡ (c, reply) ∷ take 255 old))

abbrev pub Keeps : Definitions → CommandValue → ReplyValue → KeptReplies → KeptReplies → Type 0
Keeps p (put ts) reply old new = Forgets p (put ts) old new
Keeps p (remove url) reply old new = Forgets p (remove url) old new
Keeps p (validate profile bytes) reply old new = KeepsFor (validate profile bytes) reply (reply_kept (validate profile bytes) old) old new
Keeps p (derive derived base) reply old new = KeepsFor (derive derived base) reply (reply_kept (derive derived base) old) old new
