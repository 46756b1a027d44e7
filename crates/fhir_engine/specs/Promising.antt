-- What status 0 promises of words.
use Rattle.std.specs.Prelude.{◌≡◌, List, Option, Some, Result, Ok, Err}
use Rattle.fhir_json.specs.Tree.{Text}
use Rattle.fhir_package.specs.declared.folder.FolderFault.{FolderFault}
use Rattle.fhir_package.specs.Definitions.{Definitions}
use Rattle.fhir_package.specs.Folder.{Files}
use Rattle.fhir_package.specs.Packing.{pack}
use Rattle.fhir_package.specs.ReadFiles.{ReadFiles, pack_given}
use Rattle.fhir_snapshot.specs.Completing.{Completes}
use Rattle.fhir_words.specs.declared.request.WordsFault.{WordsFault}
use Rattle.fhir_words.specs.Requests.{RequestValue, InvocationValue, request, version}
use Rattle.fhir_answers.specs.Promising.{Promised}

-- of what was read of a folder: it was listed, each file was given, the files are a package, and the same of that completed
abbrev pub ReadPromise : RequestValue → Result ReadFiles FolderFault → List (Option Text) → Type 0
ReadPromise q (Ok read) files =
    (p : Definitions) × (completed : Definitions) × (pack_given read ≡ Some (Ok p)) × Completes p completed × Promised q completed files
ReadPromise q (Err fault) files = ⊥

abbrev pub WordsPromise : Result InvocationValue WordsFault → Result ReadFiles FolderFault → List (Option Text) → Type 0
WordsPromise (Ok (request asked)) read files = ReadPromise asked read files
WordsPromise (Ok version) read files = Unit {0}
WordsPromise (Err fault) read files = ⊥

-- of a folder's files: they are a package, and the same of that completed
abbrev pub FolderPromise : RequestValue → Files → List (Option Text) → Type 0
FolderPromise q folder files =
    (p : Definitions) × (completed : Definitions) × (pack folder ≡ Ok p) × Completes p completed × Promised q completed files

-- of words: they ask for something, and of a request the same
abbrev pub Promise : Result InvocationValue WordsFault → Files → List (Option Text) → Type 0
Promise (Ok (request asked)) folder files = FolderPromise asked folder files
Promise (Ok version) folder files = Unit {0}
Promise (Err fault) folder files = ⊥
