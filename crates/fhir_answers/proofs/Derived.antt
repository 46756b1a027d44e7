-- What is answered of two profiles, from what is derived, and what status 0 says then.
use Rattle.std.proofs.Common.{◌≡◌, ◌↔◌, true, false, is_some, Some, IfSome, IsTrue, codes, nat_eq, sym, ap, subst, ◌∙◌}
use Rattle.std.proofs.lemmas.Bool.{false≢true}
use Rattle.fhir_json.specs.Tree.{Text}
use Rattle.fhir_schema.specs.Schemas.{SchemaValue}
use Rattle.fhir_certificate.specs.declared.pair.Pair.{Pair}
use Rattle.fhir_certificate.specs.Certificate.{CertificateValue}
use Rattle.fhir_certificate.specs.Format.{text_of}
use Rattle.fhir_certificate.specs.Writing.{written_by}
use Rattle.fhir_cert_check.specs.Checking.{IsCertificate}
use Rattle.fhir_cert_check.specs.Inclusion.{Includes}
use Rattle.fhir_cert_check.specs.declared.rule.Rule.{Rule}
use Rattle.fhir_cert_check.specs.Views.{rule_name}
use Rattle.fhir_derive_check.specs.declared.fault.DeriveFault.{DeriveFault}
use Rattle.fhir_derive_check.specs.declared.fault.DeriveFault.TheVariants.{Missing, Unusable}
use Rattle.fhir_derive_check.specs.declared.fault.Side.{Side}
use Rattle.fhir_derive_check.specs.declared.outcome.Outcome.{Outcome}
use Rattle.fhir_derive_check.specs.declared.outcome.Outcome.TheVariants.{Derives, NoCertificate}
use Rattle.fhir_derive_check.specs.Deriving.{IsDerived, IsFirstFailing}
use Rattle.fhir_derive_check.specs.Faults.{derive_refusal, is_no_memory}
use Rattle.fhir_derive_check.specs.Reaching.{HasCertificate}
use Rattle.fhir_derive_check.specs.Views.{certificate_of, failing_of}
use Rattle.fhir_replies.specs.Deriving.{derives, fails, missing, unusable, IsDerivationOf}
use Rattle.fhir_answers.specs.Answering.{IsDerivationReply}
use Rattle.fhir_answers.specs.Promising.{Derived}
use Rattle.fhir_answers.specs.Replying.{ReplyValue, written, on_side, fault_reply, status_of}
use Rattle.fhir_answers.specs.WrongText.{wrong_text}

-- ---- what comes of the two

pub derives_is : (s : SchemaValue) (derived base : Text) (o : Outcome) (c : CertificateValue) → o ≡ Derives c
    → IfSome (certificate_of o) (IsDerived s derived base) → IfSome (certificate_of o) (IsCertificate s) → IsDerivationOf s derived base (derives c)
derives_is s derived base o c is reached right = (
  subst (λ (x : Outcome). IfSome (certificate_of x) (IsDerived s derived base)) is reached,
  subst (λ (x : Outcome). IfSome (certificate_of x) (IsCertificate s)) is right,
)

pub fails_is : (s : SchemaValue) (derived base : Text) (o : Outcome) (pair : Pair) (rule : Rule) → o ≡ NoCertificate pair rule
    → ((is_some (certificate_of o) ≡ true) ↔ HasCertificate s derived base)
    → IfSome (failing_of o) (λ f. IsFirstFailing s derived base f.0 f.1) → IsDerivationOf s derived base (fails pair (rule_name rule))
fails_is s derived base o pair rule is only failing = (
  subst (λ (x : Outcome). IfSome (failing_of x) (λ f. IsFirstFailing s derived base f.0 f.1)) is failing,
  (λ has. false≢true (sym (ap (λ (x : Outcome). is_some (certificate_of x)) is) ∙ only.1 has)),
)

pub missing_is : (s : SchemaValue) (derived base : Text) (f : DeriveFault) (side : Side) → f ≡ Missing side
    → (is_no_memory f ≡ false → derive_refusal s derived base ≡ Some f) → IsDerivationOf s derived base (missing side)
missing_is s derived base f side is applies = applies (ap is_no_memory is) ∙ ap (λ (x : DeriveFault). Some x) is

pub unusable_is : (s : SchemaValue) (derived base : Text) (f : DeriveFault) (side : Side) → f ≡ Unusable side
    → (is_no_memory f ≡ false → derive_refusal s derived base ≡ Some f) → IsDerivationOf s derived base (unusable side)
unusable_is s derived base f side is applies = applies (ap is_no_memory is) ∙ ap (λ (x : DeriveFault). Some x) is

pub promised_so : (s : SchemaValue) (derived base : Text) (o : Outcome) (c : CertificateValue) → o ≡ Derives c
    → IfSome (certificate_of o) (IsDerived s derived base) → IfSome (certificate_of o) (IsCertificate s)
    → (IsTrue (is_some (certificate_of o)) → Includes s derived base) → Derived s derived base
promised_so s derived base o c is reached right includes = (
  c,
  subst (λ (x : Outcome). IfSome (certificate_of x) (IsDerived s derived base)) is reached,
  subst (λ (x : Outcome). IfSome (certificate_of x) (IsCertificate s)) is right,
  includes (ap (λ (x : Outcome). is_some (certificate_of x)) is),
)

-- ---- the reply

pub derives_so : (s : SchemaValue) (derived base : Text) (o : Outcome) (c : CertificateValue) (reply : ReplyValue) → o ≡ Derives c
    → IfSome (certificate_of o) (IsDerived s derived base) → IfSome (certificate_of o) (IsCertificate s)
    → reply ≡ written 0 (text_of (written_by s c)) → IsDerivationReply s derived base reply
derives_so s derived base o c reply is reached right told = record {
  derivation = derives c;
  is_derivation = derives_is s derived base o c is reached right;
  is_reply = told;
}

pub fails_so : (s : SchemaValue) (derived base : Text) (o : Outcome) (pair : Pair) (rule : Rule) (reply : ReplyValue) → o ≡ NoCertificate pair rule
    → ((is_some (certificate_of o) ≡ true) ↔ HasCertificate s derived base)
    → IfSome (failing_of o) (λ f. IsFirstFailing s derived base f.0 f.1)
    → reply ≡ written 1 (wrong_text s pair (rule_name rule)) → IsDerivationReply s derived base reply
fails_so s derived base o pair rule reply is only failing told = record {
  derivation = fails pair (rule_name rule);
  is_derivation = fails_is s derived base o pair rule is only failing;
  is_reply = told;
}

pub missing_so : (s : SchemaValue) (derived base : Text) (f : DeriveFault) (side : Side) (reply : ReplyValue) → f ≡ Missing side
    → (is_no_memory f ≡ false → derive_refusal s derived base ≡ Some f)
    → reply ≡ fault_reply (codes "D1") (on_side side derived base) → IsDerivationReply s derived base reply
missing_so s derived base f side reply is applies told = record {
  derivation = missing side;
  is_derivation = missing_is s derived base f side is applies;
  is_reply = told;
}

pub unusable_so : (s : SchemaValue) (derived base : Text) (f : DeriveFault) (side : Side) (reply : ReplyValue) → f ≡ Unusable side
    → (is_no_memory f ≡ false → derive_refusal s derived base ≡ Some f)
    → reply ≡ fault_reply (codes "D2") (on_side side derived base) → IsDerivationReply s derived base reply
unusable_so s derived base f side reply is applies told = record {
  derivation = unusable side;
  is_derivation = unusable_is s derived base f side is applies;
  is_reply = told;
}

-- ---- its status

pub not_zero : (reply : ReplyValue) (text : Text) (A : Type 0) → reply ≡ written 1 text → status_of reply ≡ 0 → A
not_zero reply text A told zero = let one : 1 ≡ 0 = sym (ap status_of told) ∙ zero in absurd (false≢true (ap (λ n. nat_eq n 0) one))

pub told_not_zero : (reply : ReplyValue) (number subject : Text) (A : Type 0) → reply ≡ fault_reply number subject → status_of reply ≡ 0 → A
told_not_zero reply number subject A told zero = let three : 3 ≡ 0 = sym (ap status_of told) ∙ zero in absurd (false≢true (ap (λ n. nat_eq n 0) three))
