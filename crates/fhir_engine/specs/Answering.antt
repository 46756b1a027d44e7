-- What is answered to words.
use Rattle.std.specs.Prelude.{◌≡◌, List, Option, Result, Ok, Err, codes}
use Rattle.fhir_json.specs.Tree.{Text}
use Rattle.fhir_package.specs.declared.folder.FolderFault.{FolderFault}
use Rattle.fhir_package.specs.ReadFiles.{ReadFiles}
use Rattle.fhir_words.specs.declared.request.WordsFault.{WordsFault}
use Rattle.fhir_words.specs.declared.request.WordsFault.TheVariants.{Usage, NoMemory}
use Rattle.fhir_words.specs.declared.version.TheConstants.{VERSION}
use Rattle.fhir_words.specs.Requests.{RequestValue, folder_of, InvocationValue, request, version}
use Rattle.fhir_answers.specs.Answering.{IsReply, answer_by}
use Rattle.fhir_answers.specs.Replying.{ReplyValue, written, told, fault_reply}
use Rattle.fhir_answers.specs.Session.{SessionValue, IsSessionOf}
use Rattle.fhir_answers.specs.Status.{code_of}
use Rattle.fhir_engine.specs.Reading.{words_status}

-- A reply to a request, of the files that were read of a folder, or of a folder that wasn't listed.
abbrev pub RepliesTo : RequestValue → Result ReadFiles FolderFault → List (Option Text) → ReplyValue → Type 0
RepliesTo q (Ok read) files reply = (s : SessionValue) × IsSessionOf read s × IsReply (answer_by q s files) reply
RepliesTo q (Err fault) files reply = reply ≡ fault_reply (codes "P1") (folder_of q)

abbrev pub words_text : WordsFault → Text
words_text Usage = codes "usage: fhirprof COMMAND ..\n"
words_text NoMemory = codes "no memory\n"

abbrev pub RepliesFor : Result InvocationValue WordsFault → Result ReadFiles FolderFault → List (Option Text) → ReplyValue → Type 0
RepliesFor (Ok (request asked)) read files reply = RepliesTo asked read files reply
RepliesFor (Ok version) read files reply = reply ≡ written 0 VERSION.now
RepliesFor (Err fault) read files reply = reply ≡ told (code_of (words_status fault)) (words_text fault)
