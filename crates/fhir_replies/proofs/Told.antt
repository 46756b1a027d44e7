-- What is told of two profiles, from what is derived.
use Rattle.std.proofs.Common.{◌≡◌, ◌↔◌, ◌+◌, length, true, false, is_some, Some, IfSome, refl, sym, ap, subst, ◌∙◌}
use Rattle.fhir_json.specs.Tree.{Text}
use Rattle.fhir_schema.specs.Schemas.{SchemaValue}
use Rattle.fhir_certificate.specs.declared.pair.Pair.{Pair}
use Rattle.fhir_certificate.specs.Certificate.{CertificateValue}
use Rattle.fhir_certificate.specs.Format.{text_of}
use Rattle.fhir_certificate.specs.Writing.{written_by}
use Rattle.fhir_cert_check.specs.Checking.{IsCertificate}
use Rattle.fhir_cert_check.specs.declared.rule.Rule.{Rule}
use Rattle.fhir_cert_check.specs.Rule.{rule_text}
use Rattle.fhir_cert_check.specs.Texts.{pair_text}
use Rattle.fhir_cert_check.specs.Views.{rule_name}
use Rattle.fhir_derive_check.specs.declared.fault.DeriveFault.{DeriveFault}
use Rattle.fhir_derive_check.specs.declared.fault.DeriveFault.TheVariants.{Missing, Unusable}
use Rattle.fhir_derive_check.specs.declared.fault.Side.{Side}
use Rattle.fhir_derive_check.specs.declared.outcome.Outcome.{Outcome}
use Rattle.fhir_derive_check.specs.declared.outcome.Outcome.TheVariants.{Derives, NoCertificate}
use Rattle.fhir_derive_check.specs.Deriving.{IsDerived, IsFirstFailing}
use Rattle.fhir_derive_check.specs.Faults.{derive_refusal, is_no_memory}
use Rattle.fhir_derive_check.specs.Reaching.{HasCertificate}
use Rattle.fhir_derive_check.specs.Views.{certificate_of, failing_of}
use Rattle.fhir_commands.specs.Replies.{DeriveValue}
use Rattle.fhir_commands.specs.Replies as replies
use Rattle.fhir_replies.specs.Deriving.{derives, fails, missing, unusable, IsDeriveAnswer}

pub derives_so : (s : SchemaValue) (derived base : Text) (o : Outcome) (c : CertificateValue) (answer : DeriveValue) → o ≡ Derives c
    → IfSome (certificate_of o) (IsDerived s derived base) → IfSome (certificate_of o) (IsCertificate s)
    → answer ≡ replies.derived (text_of (written_by s c)) (length c.items + length c.kids) → IsDeriveAnswer s derived base answer
derives_so s derived base o c answer is reached right told = record {
  derivation = derives c;
  is_derivation = (
    subst (λ (x : Outcome). IfSome (certificate_of x) (IsDerived s derived base)) is reached,
    subst (λ (x : Outcome). IfSome (certificate_of x) (IsCertificate s)) is right,
  );
  is_answer = told;
}

no_both : false ≡ true → ⊥
no_both e = absurd cc

pub fails_so : (s : SchemaValue) (derived base : Text) (o : Outcome) (pair : Pair) (rule : Rule) (answer : DeriveValue) → o ≡ NoCertificate pair rule
    → ((is_some (certificate_of o) ≡ true) ↔ HasCertificate s derived base)
    → IfSome (failing_of o) (λ f. IsFirstFailing s derived base f.0 f.1)
    → answer ≡ replies.refuted (pair_text s pair) (rule_text (rule_name rule)) → IsDeriveAnswer s derived base answer
fails_so s derived base o pair rule answer is only failing told = record {
  derivation = fails pair (rule_name rule);
  is_derivation = (
    subst (λ (x : Outcome). IfSome (failing_of x) (λ f. IsFirstFailing s derived base f.0 f.1)) is failing,
    (λ has. no_both (sym (ap (λ (x : Outcome). is_some (certificate_of x)) is) ∙ only.1 has)),
  );
  is_answer = told;
}

pub missing_so : (s : SchemaValue) (derived base : Text) (f : DeriveFault) (side : Side) → f ≡ Missing side
    → (is_no_memory f ≡ false → derive_refusal s derived base ≡ Some f) → IsDeriveAnswer s derived base replies.missing
missing_so s derived base f side is applies = record {
  derivation = missing side;
  is_derivation = applies (ap is_no_memory is) ∙ ap (λ (x : DeriveFault). Some x) is;
  is_answer = refl;
}

pub unusable_so : (s : SchemaValue) (derived base : Text) (f : DeriveFault) (side : Side) → f ≡ Unusable side
    → (is_no_memory f ≡ false → derive_refusal s derived base ≡ Some f) → IsDeriveAnswer s derived base replies.unusable
unusable_so s derived base f side is applies = record {
  derivation = unusable side;
  is_derivation = applies (ap is_no_memory is) ∙ ap (λ (x : DeriveFault). Some x) is;
  is_answer = refl;
}
