-- How a registry answers a line.
use Rattle.std.specs.Prelude.{◌≡◌, ◌⊎◌, ℕ, List, Option, None, Some, codes}
use Rattle.fhir_package.specs.Definitions.{Definitions}
use Rattle.fhir_commands.specs.Commands.{CommandValue, line_command}
use Rattle.fhir_commands.specs.Replies.{ReplyValue, reply_tree, fault_tree, line_of}
use Rattle.fhir_registry.specs.Session.{after, IsReplyBy}
use Rattle.fhir_registry.specs.Keeping.{RegistryValue}

-- Of definitions p a line that is a command leaves what the command leaves, and a reply to it is written; any other changes nothing, and is
-- told to be none. Which replies are right is a relation.
module _ (IsRight : CommandValue → ReplyValue → Type 0) where
  -- a line of a right reply
  abbrev pub WritesReply : CommandValue → List ℕ → Type 0
  WritesReply c written = (r : ReplyValue) × IsRight c r × (written ≡ line_of (reply_tree r))

  abbrev pub AnswersBy : Definitions → Option CommandValue → Definitions → List ℕ → Type 0
  AnswersBy p None q written = (q ≡ p) × (written ≡ line_of (fault_tree (codes "line")))
  AnswersBy p (Some c) q written = (q ≡ after c p) × WritesReply c written

-- want of memory changes no definition, and is told
abbrev pub WantsMemory : Definitions → Definitions → List ℕ → Type 0
WantsMemory p q written = (q ≡ p) × (written ≡ line_of (fault_tree (codes "memory")))

-- The replies are those of the definitions, and of the texts of the unread rules for which a user vouches; these stay.
abbrev pub AnswersCommand : RegistryValue → Option CommandValue → RegistryValue → List ℕ → Type 0
AnswersCommand r c s written = AnswersBy (IsReplyBy r.texts r.definitions) r.definitions c s.definitions written

-- the same; or memory ran out
abbrev pub AnswersLine : RegistryValue → List ℕ → RegistryValue → List ℕ → Type 0
AnswersLine r line s written =
    (s.texts ≡ r.texts) × (WantsMemory r.definitions s.definitions written ⊎ AnswersCommand r (line_command line) s written)
