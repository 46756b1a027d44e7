-- An audit tells that a profile narrows its base exactly where `derive` says so.
use Rattle.std.proofs.Common.{◌≡◌, false, List, Option, eqb, ap, sym}
use Rattle.std.proofs.lemmas.Bool.{eqb-true, false_from_ne_true}
use Rattle.fhir_json.specs.Tree.{Text}
use Rattle.fhir_schema.specs.Schemas.{SchemaValue}
use Rattle.fhir_derive_check.specs.declared.fault.DeriveFault.TheVariants.{Missing, Unusable}
use Rattle.fhir_derive_check.specs.Reaching.{HasCertificate}
use Rattle.fhir_audit.specs.Verdicts.{VerdictValue, narrows, does_not_narrow, is_not_shown, cannot_be_used, has_no_base, is_narrowing, IsSaid}
use Rattle.fhir_answers.specs.Answering.{IsDerivationReply}
use Rattle.fhir_answers.specs.Replying.{ReplyValue, status_of}
use Rattle.answer_laws.proofs.Certificates.{some_refusal, derived_at, derived_then}

module _ (given : Option (List Text)) (s : SchemaValue) (url base : Text) (reply : ReplyValue) (is : IsDerivationReply s url base reply) where
  otherwise : (HasCertificate s url base → ⊥) → false ≡ eqb (status_of reply) 0
  otherwise none = sym (false_from_ne_true (eqb (status_of reply) 0) (λ e. none (derived_at s url base reply is (eqb-true (status_of reply) 0 e))))

  pub alike : (verdict : VerdictValue) → IsSaid given s url base verdict → is_narrowing verdict ≡ eqb (status_of reply) 0
  alike (narrows c) h = sym (ap (λ k. eqb k 0) (derived_then s url base reply is h.exists))
  alike (does_not_narrow pair rule resource) h = otherwise h.0.none
  alike (is_not_shown pair rule) h = otherwise h.none
  alike (cannot_be_used side) h = otherwise (some_refusal s url base (Unusable side) h)
  alike has_no_base h = otherwise (some_refusal s url base (Missing h.0) h.1)
