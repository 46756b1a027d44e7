-- Commands of a session, and how one is written on a line: as a JSON object of one member, whose name says which command it is.
use Rattle.std.specs.Prelude.{ℕ, List, [], ◌∷◌, Option, None, Some, Bool, false, ◌&&◌, string_bytes, codes, if◌then◌else◌}
use Rattle.std.specs.Option.{option_map, option_and_then}
use Rattle.std.specs.Result.{result_ok}
use Rattle.std.specs.Str.{bytes_eq}
use Rattle.fhir_json.specs.Tree.{Text, Tree, list_of, properties_of, Property}
use Rattle.fhir_json.specs.Fields.{members_in, as_text, as_items, is_array}
use Rattle.fhir_json.specs.Views.{trees_of}
use Rattle.fhir_json.specs.Compact.{compact}
use Rattle.fhir_json.specs.Reading.{reading}
use Rattle.fhir_commands.specs.declared.command.Command.{Command}
use Rattle.fhir_commands.specs.declared.command.Command.TheVariants.{Put, Remove, Ask}
use Rattle.fhir_commands.specs.declared.question.Question.{Question}
use Rattle.fhir_commands.specs.declared.question.Question.TheVariants.{Validate, Derive}

pub data CommandValue : Type 0 where
  put : List Tree → CommandValue
  remove : Text → CommandValue
  -- the url of a profile, and the bytes of a resource
  validate : Text → List ℕ → CommandValue
  -- the urls of a derived profile and of its base
  derive : (derived base : List ℕ) → CommandValue

abbrev pub question_seen : Question → CommandValue
question_seen (Validate profile resource) = validate (string_bytes profile) resource.items
question_seen (Derive derived base) = derive (string_bytes derived) (string_bytes base)

abbrev pub command_seen : Command → CommandValue
command_seen (Put trees) = put (trees_of trees.items)
command_seen (Remove url) = remove (string_bytes url)
command_seen (Ask question) = question_seen question

-- two commands ask the same: they are of one kind, and have the same words
abbrev pub asks_same : CommandValue → CommandValue → Bool
asks_same (validate profile bytes) (validate other others) = bytes_eq profile other && bytes_eq bytes others
asks_same (derive derived base) (derive other others) = bytes_eq derived other && bytes_eq base others
asks_same _ _ = false

-- ---- how one is written

-- the one alone that stands in a list
abbrev pub only_of : {A : Type 0} → List A → Option A
only_of (x ∷ []) = Some x
only_of _ = None

-- the member of an object that has one alone
abbrev pub only_member : Tree → Option Property
only_member t = only_of (properties_of (members_in t))

-- the trees of an array
abbrev pub put_in : Tree → Option CommandValue
put_in t = if is_array t then Some (put (list_of (as_items t))) else None

-- the url of a profile, and a resource
abbrev pub validate_in : List Tree → Option CommandValue
validate_in (profile ∷ resource ∷ []) = option_map (λ url. validate url (compact resource)) (as_text profile)
validate_in _ = None

-- the urls of a derived profile and of its base
abbrev pub derive_in : List Tree → Option CommandValue
derive_in (derived ∷ base ∷ []) = option_and_then (λ first. option_map (λ second. derive first second) (as_text base)) (as_text derived)
derive_in _ = None

abbrev pub command_of_member : Property → Option CommandValue
command_of_member m =
    if bytes_eq m.0 (codes "put") then put_in m.1
    else (if bytes_eq m.0 (codes "remove") then option_map remove (as_text m.1)
    else (if bytes_eq m.0 (codes "validate") then validate_in (list_of (as_items m.1))
    else (if bytes_eq m.0 (codes "derive") then derive_in (list_of (as_items m.1)) else None)))

abbrev pub command_of : Tree → Option CommandValue
command_of t = option_and_then command_of_member (only_member t)

-- the command that the bytes of a line are, if they are one
abbrev pub line_command : List ℕ → Option CommandValue
line_command line = option_and_then command_of (result_ok (reading line))
