-- What `snapshot` prints of a definition that can be used.
use Rattle.std.proofs.Common.{◌≡◌, ◌++◌, List, None, codes, eqb, ap, sym, ◌∙◌}
use Rattle.std.proofs.lemmas.Bool.{false≢true}
use Rattle.fhir_json.specs.Compact.{compact}
use Rattle.fhir_json.specs.Tree.{Text}
use Rattle.fhir_elements.specs.Element.{Element}
use Rattle.fhir_overlay.specs.Completed.{elements_tree}
use Rattle.fhir_package.specs.Definitions.{Definitions}
use Rattle.fhir_schema.specs.Schemas.{schema_of, unusable, elements_of_url}
use Rattle.fhir_answers.specs.Answering.{IsListed}
use Rattle.fhir_answers.specs.Replying.{ReplyValue, written, noted, told, status_of, out_of}
use Rattle.answer_laws.proofs.Usable.{Closed, snapshot_used}

pub printed : Closed → (p : Definitions) (url : Text) (reply : ReplyValue) → IsListed p url reply → status_of reply ≡ 0 → unusable (schema_of p) url ≡ None
    → out_of reply ≡ compact (elements_tree (elements_of_url (schema_of p) url)) ++ codes "\n"
printed closed p url (written status out) h e usable =
    ap out_of h.2 ∙ ap (λ (es : List Element). compact (elements_tree es) ++ codes "\n") (sym (snapshot_used closed p url h.0 usable h.1))
printed closed p url (noted status out notes) h e usable = absurd h
printed closed p url (told status err) h e usable = absurd (false≢true (ap (eqb 0) (sym (ap status_of h.2) ∙ e)))
