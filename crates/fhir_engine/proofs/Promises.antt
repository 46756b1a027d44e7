-- What the promise of a session says of the files that it is of, and what that says of their folder.
use Rattle.std.proofs.Common.{◌≡◌, List, [], Ok, Err, Result, Option, None, Some, All, refl, sym, ap, ◌∙◌}
use Rattle.std.specs.Prelude.{find, slice_get}
use Rattle.std.specs.Option.{option_map, option_or}
use Rattle.std.specs.Map.{keys_of}
use Rattle.fhir_json.specs.Tree.{Text}
use Rattle.fhir_package.specs.declared.folder.FolderFault.{FolderFault}
use Rattle.fhir_package.specs.Definitions.{Definitions}
use Rattle.fhir_package.specs.Folder.{Files}
use Rattle.fhir_package.specs.Packing.{Refusal, json_names, json_files, pack_files, pack}
use Rattle.fhir_package.specs.ReadFiles.{ReadFiles, IsFrom, all_given, pack_given}
use Rattle.fhir_package.specs.Surveying.{FileFault, Surveyed, survey, is_unreadable, told_by, packed_by}
use Rattle.fhir_report.specs.Lacking.{numbers}
use Rattle.fhir_words.specs.declared.request.WordsFault.{WordsFault}
use Rattle.fhir_answers.specs.Promising.{SessionPromise}
use Rattle.fhir_engine.specs.Promising.{ReadPromise, WordsPromise, FolderPromise, Promise}
use Rattle.fhir_words.specs.Requests.{RequestValue, InvocationValue, request, version}
use Rattle.fhir_answers.specs.Session.{SessionValue, IsSessionOf}
use Rattle.fhir_engine.specs.Reading.{IsReadOf}

pub of_read : ((files : ReadFiles) → packed_by (survey files) ≡ pack_given files) → (q : RequestValue) (files : ReadFiles) (s : SessionValue) (named : List (Option Text))
    → IsSessionOf files s → SessionPromise q s named → ReadPromise q (Ok files) named
of_read surveys q files s named of promise =
    let by_faults : List FileFault → Option (Result Definitions Refusal) =
    λ faults. told_by (option_or (find is_unreadable faults) (slice_get faults 0)) (survey files).definitions in
    let none : (survey files).faults ≡ [] = sym (ap (λ (v : Surveyed). v.faults) of.completed.survey_is) ∙ promise.0 in
    ((survey files).definitions, s.survey.definitions, sym (surveys files) ∙ ap by_faults none, (numbers s.lacking, of.completed.completed), promise.1)

-- ---- what was read of a folder is the folder's

-- files that were all given are a folder's JSON files
abbrev pub AreOfFolder : Type 0
AreOfFolder =
    (folder : Files) (read : ReadFiles) (files : Files) → keys_of read ≡ json_names (keys_of folder) → All (IsFrom folder) read
    → all_given read ≡ Some files → files ≡ json_files folder

pub packed : AreOfFolder → (folder : Files) (read : ReadFiles) (p : Definitions) → IsReadOf folder (Ok read) → pack_given read ≡ Some (Ok p)
    → pack folder ≡ Ok p
packed law folder read p is_read is = by (all_given read) refl is
  where
    by : (given : Option Files) → all_given read ≡ given → option_map pack_files given ≡ Some (Ok p) → pack folder ≡ Ok p
    by None e h = absurd cc
    by (Some files) e h =
        let whole : pack_files files ≡ Ok p = cc in ap pack_files (sym (law folder read files is_read.0 is_read.1 e)) ∙ whole

of_request : AreOfFolder → (q : RequestValue) (folder : Files) (read : Result ReadFiles FolderFault) (named : List (Option Text)) → IsReadOf folder read
    → ReadPromise q read named → FolderPromise q folder named
of_request law q folder (Ok read) named is_read promise = (promise.0, promise.1, packed law folder read promise.0 is_read promise.2, promise.3, promise.4)
of_request law q folder (Err fault) named is_read promise = absurd promise

pub of_words : AreOfFolder → (asked : Result InvocationValue WordsFault) (folder : Files) (read : Result ReadFiles FolderFault) (named : List (Option Text))
    → IsReadOf folder read → WordsPromise asked read named → Promise asked folder named
of_words law (Ok (request q)) folder read named is_read promise = of_request law q folder read named is_read promise
of_words law (Ok version) folder read named is_read promise = tt
of_words law (Err fault) folder read named is_read promise = promise

-- ---- what is served

-- Files of which no survey finds a fault are the package that it has.
pub loaded : (files : ReadFiles) (p : Definitions) → packed_by (survey files) ≡ pack_given files
    → option_or (find is_unreadable (survey files).faults) (slice_get (survey files).faults 0) ≡ None → p ≡ (survey files).definitions
    → pack_given files ≡ Some (Ok p)
loaded files p law none same =
    sym law ∙ ap (λ (fault : Option FileFault). told_by fault (survey files).definitions) none
    ∙ ap (λ (d : Definitions). Some (Ok d)) (sym same)
