-- A reply to a request by a session and the bytes of files.
use Rattle.std.specs.Prelude.{◌≡◌, List, Option, None}
use Rattle.fhir_json.specs.Tree.{Text}
use Rattle.fhir_package.specs.Surveying.{refusal}
use Rattle.fhir_words.specs.Requests.{RequestValue}
use Rattle.fhir_answers.specs.Answering.{IsReply, answer_by}
use Rattle.fhir_answers.specs.Replying.{ReplyValue}
use Rattle.fhir_answers.specs.Session.{SessionValue}

-- The files of the folder are a package, and it is a reply to the request.
abbrev pub Replies : RequestValue → SessionValue → List (Option Text) → ReplyValue → Type 0
Replies q s files reply = (refusal s.survey ≡ None) × IsReply (answer_by q s files) reply
