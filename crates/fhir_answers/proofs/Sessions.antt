-- What a session says of its schema and its files.
use Rattle.std.proofs.Common.{◌≡◌, ℕ, Result, Ok, Err, map, String, string_bytes, ap, sym, ◌∙◌, List, [], ◌∷◌, Bool, true, false, IsTrue, Option, None, Some, refl, subst}
use Rattle.std.specs.Prelude.{find, slice_get}
use Rattle.std.specs.Option.{option_or, option_map_or}
use Rattle.fhir_json.specs.Tree.{Text}
use Rattle.fhir_package.specs.Definitions.{Definitions}
use Rattle.fhir_package.specs.ReadFiles.{ReadFiles}
use Rattle.fhir_package.specs.Surveying.{FileFault, Surveyed, survey, is_unreadable, refusal}
use Rattle.fhir_snapshot.specs.declared.fault.SnapFault.{SnapFault}
use Rattle.fhir_snapshot.specs.Faults.{number_of}
use Rattle.fhir_snapshot.specs.Completing.{Numbered, IsCompletion}
use Rattle.fhir_report.specs.Lacking.{Lacking, numbers, lacking_seen}
use Rattle.fhir_schema.specs.Schemas.{SchemaValue, schema_of}
use Rattle.fhir_findings.specs.declared.selection.SelectFault.{SelectFault}
use Rattle.fhir_findings.specs.declared.selection.SelectFault.TheVariants.{Unknown}
use Rattle.fhir_findings.specs.Clean.{AreSelectedUsable}
use Rattle.fhir_findings.specs.Finding.{selected_unusable}
use Rattle.fhir_findings.specs.Selecting.{SelectionValue, select, asked_selection, unknown_place}
use Rattle.fhir_report.specs.Faultless.{CertificateValue, PromisesIfAny, IsRightBy}
use Rattle.fhir_answers.specs.Promising.{AreRight, CheckedOf}
use Rattle.fhir_answers.specs.Reporting.{asked}
use Rattle.fhir_answers.specs.Session.{SessionValue, IsCompleted, schema_in}
use Rattle.fhir_answers.specs.Status.{code_of, report_status}

-- files that aren't refused have no fault
none_of : (faults : List FileFault) → option_or (find is_unreadable faults) (slice_get faults 0) ≡ None → faults ≡ []
none_of [] e = refl
none_of (fault ∷ faults) e = by (find is_unreadable (fault ∷ faults)) e
  where
    by : (first : Option FileFault) → option_or first (Some fault) ≡ None → fault ∷ faults ≡ []
    by None e = absurd cc
    by (Some other) e = absurd cc

pub no_faults : (s : Surveyed) → refusal s ≡ None → s.faults ≡ []
no_faults s e = none_of s.faults e

-- status 0 is that of a clean report
pub clean_by : (is_clean : Bool) → code_of (report_status is_clean) ≡ 0 → IsTrue is_clean
clean_by true e = refl
clean_by false e = absurd cc

-- what is right by the schema and the survey of a session
pub right_of : ((chosen : SelectionValue) (survey : Surveyed) → selected_unusable chosen (schema_of survey.definitions) survey ≡ [] → AreSelectedUsable chosen survey.definitions)
    → (selection : SelectionValue) (schema : SchemaValue) (survey : Surveyed) (s : SessionValue) (certificate : Option CertificateValue) → survey ≡ s.survey
    → schema ≡ schema_in s → IsRightBy selection schema survey certificate → PromisesIfAny schema certificate
    → (s.survey.faults ≡ []) × AreRight selection s.survey.definitions certificate
right_of usable selection schema survey s certificate same_survey same_schema right promises =
    let by : IsRightBy selection (schema_in s) s.survey certificate =
    subst (λ x. IsRightBy selection x s.survey certificate) same_schema (subst (λ x. IsRightBy selection schema x certificate) same_survey right) in
    (by.0, (usable selection s.survey by.1, by.2, subst (λ x. PromisesIfAny x certificate) same_schema promises))

-- the same of the certificate that is asked about
pub checked_so : (selection : SelectionValue) (s : SessionValue) (name file : Option Text) (certificate : Option CertificateValue) → asked name file ≡ Some certificate
    → (s.survey.faults ≡ []) × AreRight selection s.survey.definitions certificate → (s.survey.faults ≡ []) × CheckedOf selection s.survey.definitions name file
checked_so selection s name file certificate is promise = (promise.0, (certificate, is, promise.1))

-- ---- prefixes

-- what is selected, by the place of the first prefix that begins no url
abbrev chosen : Option ℕ → SelectionValue → Result SelectionValue SelectFault
chosen unknown selection = option_map_or (λ place. Err (Unknown place)) unknown (Ok selection)

chosen_ok : (unknown : Option ℕ) (all own : SelectionValue) → chosen unknown all ≡ Ok own → (unknown ≡ None) × (own ≡ all)
chosen_ok None all own is = (refl, cc)
chosen_ok (Some place) all own is = absurd cc

chosen_unknown : (unknown : Option ℕ) (all : SelectionValue) (place : ℕ) → chosen unknown all ≡ Err (Unknown place) → unknown ≡ Some place
chosen_unknown None all place is = absurd cc
chosen_unknown (Some other) all place is = cc

pub selected : (prefixes : List Text) (p : Definitions) (selection : SelectionValue) → select prefixes p ≡ Ok selection
    → (unknown_place p prefixes ≡ None) × (selection ≡ asked_selection prefixes p)
selected prefixes p selection is = chosen_ok (unknown_place p prefixes) (asked_selection prefixes p) selection is

pub unselected : (prefixes : List Text) (p : Definitions) (place : ℕ) → select prefixes p ≡ Err (Unknown place) → unknown_place p prefixes ≡ Some place
unselected prefixes p place is = chosen_unknown (unknown_place p prefixes) (asked_selection prefixes p) place is

-- ---- completing

numbered : {Y : Type 0} (fs : List (String Y × SnapFault)) → map (λ f. (string_bytes f.0, number_of f.1)) fs ≡ numbers (lacking_seen fs)
numbered [] = refl
numbered (f ∷ fs) = ap (λ (l : Numbered). (string_bytes f.0, number_of f.1) ∷ l) (numbered fs)

-- the package of a survey is taken out, completed and put back
pub completed_so : {Y : Type 0} (files : ReadFiles) (surveyed without sv : Surveyed) (p none completed : Definitions) (fs : List (String Y × SnapFault)) (lacking : Lacking)
    → surveyed ≡ survey files → p ≡ surveyed.definitions → without ≡ record surveyed { definitions = none } → sv ≡ record without { definitions = completed }
    → IsCompletion p completed (map (λ f. (string_bytes f.0, number_of f.1)) fs) → lacking ≡ lacking_seen fs → IsCompleted files sv lacking
completed_so files surveyed without sv p none completed fs lacking is taken out back whole listed =
    let from : p ≡ (survey files).definitions = taken ∙ ap (λ (v : Surveyed). v.definitions) is in
    let to : completed ≡ sv.definitions = sym (ap (λ (v : Surveyed). v.definitions) back) in
    record {
      completed =
          subst (λ d. IsCompletion d sv.definitions (numbers lacking)) from
          (subst (λ d. IsCompletion p d (numbers lacking)) to
          (subst (IsCompletion p completed) (numbered fs ∙ sym (ap numbers listed)) whole));
      survey_is =
          back ∙ ap (λ (v : Surveyed). record v { definitions = completed }) (out ∙ ap (λ (v : Surveyed). record v { definitions = none }) is)
          ∙ ap (λ (d : Definitions). record (survey files) { definitions = d }) to;
    }
