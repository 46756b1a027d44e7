-- What is answered by the lines of a file, from what is known of the texts and of the notes.
use Rattle.std.proofs.Common.{◌≡◌, List, None, IsUtf8, subst, inl}
use Rattle.fhir_json.specs.Tree.{Text}
use Rattle.fhir_schema.specs.Schemas.{SchemaValue}
use Rattle.fhir_unread.specs.Given.{texts_given, AreSame, notes}
use Rattle.fhir_unread.specs.Unread.{unread_texts}
use Rattle.fhir_answers.specs.ByLines.{IsByLines}
use Rattle.fhir_answers.specs.Replying.{ReplyValue}
use Rattle.fhir_answers.specs.Session.{SessionValue, schema_in}

-- the file is read, and the reply is right by its texts
pub by_lines : (P : SchemaValue → List Text → Text → ReplyValue → Type 0) (s : SessionValue) (schema : SchemaValue) (texts : List Text) (told name lines : Text) (reply : ReplyValue)
    → schema ≡ schema_in s → (¬ ¬ IsUtf8 lines) → AreSame texts (texts_given lines) → told ≡ notes name (unread_texts None (schema_in s) s.survey) lines
    → P schema texts told reply → IsByLines (P (schema_in s)) s name lines reply
by_lines P s schema texts told name lines reply same utf8 are is so =
    inl (
      utf8,
      (
        texts,
        are,
        subst (λ x. P x texts (notes name (unread_texts None (schema_in s) s.survey) lines) reply) same (subst (λ n. P schema texts n reply) is so),
      ),
    )
