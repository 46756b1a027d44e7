-- Where nothing is told of the definitions of a session, each of them can be used, and so each brings what makes a snapshot.
use Rattle.std.proofs.Common.{◌≡◌, ◌++◌, ℕ, suc, List, [], ◌∷◌, filter, Bool, cond, true, false, Option, None, Some, get_or, ap, ◌∙◌, refl}
use Rattle.std.specs.Map.{lookup, keys_of}
use Rattle.std.specs.Option.{option_map_or}
use Rattle.std.specs.Str.{bytes_eq}
use Rattle.std.proofs.lemmas.Option.{none-some}
use Rattle.std.proofs.lemmas.Slice.Eq.{bytes_eq-Decides}
use Rattle.fhir_json.specs.Tree.{Text, Tree}
use Rattle.fhir_elements.specs.declared.reason.Reason.{Reason}
use Rattle.fhir_package.specs.Definitions.{ByUrl}
use Rattle.fhir_package.specs.ReadFiles.{ReadFiles}
use Rattle.fhir_package.specs.Surveying.{survey}
use Rattle.fhir_schema.specs.Schemas.{SchemaValue, unusable}
use Rattle.fhir_findings.specs.Finding.{UnusableValue, unusable_at, unusable_from, all_unusable, selected_unusable}
use Rattle.fhir_report.specs.Lacking.{numbers}
use Rattle.fhir_answers.specs.Session.{SessionValue, IsCompleted, schema_in}
use Rattle.snapshot_laws.specs.Right.{AreRight}
use Rattle.answer_laws.proofs.Usable.{Closed, all_right}

none_left : (us : List UnusableValue) → filter (λ u. true) us ≡ [] → us ≡ []
none_left [] e = refl
none_left (u ∷ us) e = cc

both_empty : {A : Type 0} (xs ys : List A) → xs ++ ys ≡ [] → (xs ≡ []) × (ys ≡ [])
both_empty [] ys e = (refl, e)
both_empty (x ∷ xs) ys e = cc

none_there : (file url : Text) (o : Option Reason) → option_map_or (λ reason. let u : UnusableValue = (file, url, reason) in u ∷ []) o [] ≡ [] → o ≡ None
none_there file url None e = refl
none_there file url (Some reason) e = cc

usable_from : (s : SchemaValue) (files : List Text) (place : ℕ) (es : ByUrl) (url : Text) (t : Tree) → unusable_from s files place (keys_of es) ≡ []
    → lookup (bytes_eq url) es ≡ Some t → unusable s url ≡ None
usable_from s files place [] url t none e = absurd (none-some t e)
usable_from s files place (x ∷ es) url t none e =
    let parts = both_empty (unusable_at s (get_or files place []) x.0) (unusable_from s files (suc place) (keys_of es)) none in
    by (bytes_eq url x.0) refl (none_there (get_or files place []) x.0 (unusable s x.0) parts.0) (usable_from s files (suc place) es url t parts.1) e
  where
    by : (b : Bool) → bytes_eq url x.0 ≡ b → unusable s x.0 ≡ None → (lookup (bytes_eq url) es ≡ Some t → unusable s url ≡ None)
        → cond b (Some x.1) (lookup (bytes_eq url) es) ≡ Some t → unusable s url ≡ None
    by true is first rest e = ap (unusable s) ((bytes_eq-Decides url x.0).0 is) ∙ first
    by false is first rest e = rest e

pub checked_right : Closed → (s : SessionValue) {files : ReadFiles} → IsCompleted files s.survey s.lacking → selected_unusable None (schema_in s) s.survey ≡ []
    → AreRight (survey files).definitions
checked_right closed s {files} is none =
    all_right closed (survey files).definitions s.survey.definitions (numbers s.lacking) is.completed
    (λ url t at.
    usable_from (schema_in s) s.survey.sources.structure_definitions 0 s.survey.definitions.structure_definitions url t
    (none_left (all_unusable (schema_in s) s.survey) none) at)
