-- What is answered where a resource is looked for that shows that a profile doesn't narrow another.
use Rattle.std.specs.Prelude.{◌≡◌, List, Option, None, Some, IfSome, IsTrue}
use Rattle.fhir_json.specs.Tree.{Text}
use Rattle.fhir_schema.specs.Schemas.{SchemaValue}
use Rattle.fhir_counter.specs.Shows.{ShowsBy, is_on_line}
use Rattle.fhir_replies.specs.Deriving.{Derivation, IsDerivationOf}
use Rattle.fhir_answers.specs.ByLines.{IsByLines}
use Rattle.fhir_answers.specs.Replying.{ReplyValue, counter_reply}
use Rattle.fhir_answers.specs.Session.{SessionValue, schema_in}

-- What comes of the two profiles is told, with a resource on one line that shows it, if one was found.
pub record IsCounterReply (texts : Option (List Text)) (s : SchemaValue) (notes derived base : Text) (reply : ReplyValue) : Type 0 where
  pub derivation : Derivation
  pub is_derivation : IsDerivationOf s derived base derivation
  pub found : Option Text
  pub is_shown : IfSome found (ShowsBy texts s derived base)
  pub is_line : IfSome found (λ bytes. IsTrue (is_on_line bytes))
  pub is_reply : reply ≡ counter_reply s notes derived base found derivation

-- The same by the lines of a file.
abbrev pub IsGivenCounter : SessionValue → (derived base name lines : Text) → ReplyValue → Type 0
IsGivenCounter s derived base name lines reply =
    IsByLines (λ texts notes. IsCounterReply (Some texts) (schema_in s) notes derived base) s name lines reply
