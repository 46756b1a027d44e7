-- What is answered by the texts that the lines of a file give.
use Rattle.std.specs.Prelude.{◌≡◌, ◌⊎◌, List, None, IsUtf8}
use Rattle.fhir_json.specs.Tree.{Text}
use Rattle.fhir_unread.specs.Given.{texts_given, AreSame, notes}
use Rattle.fhir_unread.specs.Unread.{unread_texts}
use Rattle.fhir_answers.specs.Replying.{ReplyValue, unreadable_reply}
use Rattle.fhir_answers.specs.Session.{SessionValue, schema_in}

-- The texts are those that the lines give. The lines that give none which a definition carries are told.
abbrev pub IsByTexts : (List Text → Text → ReplyValue → Type 0) → SessionValue → (name lines : Text) → ReplyValue → Type 0
IsByTexts P s name lines reply =
    (texts : List Text) × AreSame texts (texts_given lines) × P texts (notes name (unread_texts None (schema_in s) s.survey) lines) reply

-- The file of that name is read, unless it isn't UTF-8; or it can't be, and then it isn't.
abbrev pub IsByLines : (List Text → Text → ReplyValue → Type 0) → SessionValue → (name lines : Text) → ReplyValue → Type 0
IsByLines P s name lines reply =
    ((¬ ¬ IsUtf8 lines) × IsByTexts P s name lines reply) ⊎ ((¬ IsUtf8 lines) × (reply ≡ unreadable_reply name))
