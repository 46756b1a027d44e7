-- What is answered where a resource is looked for that shows that a profile doesn't narrow another, from what is derived and what was found, and
-- what status 0 says then.
use Rattle.std.proofs.Common.{◌≡◌, ◌↔◌, ◌++◌, List, true, false, is_some, Option, None, Some, IfSome, IsTrue, codes, nat_eq, sym, ap, ◌∙◌}
use Rattle.std.specs.Option.{option_map}
use Rattle.std.proofs.lemmas.Bool.{false≢true}
use Rattle.fhir_json.specs.Tree.{Text}
use Rattle.fhir_schema.specs.Schemas.{SchemaValue}
use Rattle.fhir_certificate.specs.declared.pair.Pair.{Pair}
use Rattle.fhir_certificate.specs.Certificate.{CertificateValue}
use Rattle.fhir_cert_check.specs.Checking.{IsCertificate}
use Rattle.fhir_cert_check.specs.Rule.{RuleName}
use Rattle.fhir_cert_check.specs.declared.rule.Rule.{Rule}
use Rattle.fhir_cert_check.specs.Views.{rule_name}
use Rattle.fhir_counter.specs.Shows.{ShowsBy, is_on_line}
use Rattle.fhir_derive_check.specs.declared.fault.DeriveFault.{DeriveFault}
use Rattle.fhir_derive_check.specs.declared.fault.DeriveFault.TheVariants.{Missing, Unusable}
use Rattle.fhir_derive_check.specs.declared.fault.Side.{Side}
use Rattle.fhir_derive_check.specs.declared.outcome.Outcome.{Outcome}
use Rattle.fhir_derive_check.specs.declared.outcome.Outcome.TheVariants.{Derives, NoCertificate}
use Rattle.fhir_derive_check.specs.Deriving.{IsDerived, IsFirstFailing}
use Rattle.fhir_derive_check.specs.Faults.{derive_refusal, is_no_memory}
use Rattle.fhir_derive_check.specs.Reaching.{HasCertificate}
use Rattle.fhir_derive_check.specs.Views.{certificate_of, failing_of}
use Rattle.fhir_replies.specs.Deriving.{derives, fails, missing, unusable}
use Rattle.fhir_answers.specs.Replying.{ReplyValue, answer_noted, on_side, fault_reply, shown_reply, status_of}
use Rattle.fhir_answers.specs.Showing.{IsCounterReply}
use Rattle.fhir_answers.specs.WrongText.{wrong_text}
use Rattle.fhir_answers.proofs.Derived.{derives_is, fails_is, missing_is, unusable_is}
use Rattle.fhir_answers.proofs.Judging.{status_noted}

mapped : {X Y : Type 0} (f : X → Y) (P : Y → Type 0) (r : Option X) → IfSome r (λ x. P (f x)) → IfSome (option_map f r) P
mapped f P None so = so
mapped f P (Some x) so = so

module _ (texts : Option (List Text)) (s : SchemaValue) (told derived base : Text) where
  pub derives_so : (o : Outcome) (c : CertificateValue) (reply : ReplyValue) → o ≡ Derives c
      → IfSome (certificate_of o) (IsDerived s derived base) → IfSome (certificate_of o) (IsCertificate s)
      → reply ≡ answer_noted told 0 (codes "yes\n") → IsCounterReply texts s told derived base reply
  derives_so o c reply is reached right so = record {
    derivation = derives c;
    is_derivation = derives_is s derived base o c is reached right;
    found = None;
    is_shown = tt;
    is_line = tt;
    is_reply = so;
  }

  pub fails_so : {X : Type 0} (o : Outcome) (pair : Pair) (rule : Rule) (seen : X → Text) (found : Option X) (reply : ReplyValue) → o ≡ NoCertificate pair rule
      → ((is_some (certificate_of o) ≡ true) ↔ HasCertificate s derived base)
      → IfSome (failing_of o) (λ f. IsFirstFailing s derived base f.0 f.1) → IfSome found (λ x. ShowsBy texts s derived base (seen x))
      → IfSome found (λ x. IsTrue (is_on_line (seen x)))
      → reply ≡ shown_reply s told pair (rule_name rule) (option_map seen found) → IsCounterReply texts s told derived base reply
  fails_so o pair rule seen found reply is only failing shown lined so = record {
    derivation = fails pair (rule_name rule);
    is_derivation = fails_is s derived base o pair rule is only failing;
    found = option_map seen found;
    is_shown = mapped seen (ShowsBy texts s derived base) found shown;
    is_line = mapped seen (λ bytes. IsTrue (is_on_line bytes)) found lined;
    is_reply = so;
  }

  pub missing_so : (f : DeriveFault) (side : Side) (reply : ReplyValue) → f ≡ Missing side
      → (is_no_memory f ≡ false → derive_refusal s derived base ≡ Some f)
      → reply ≡ fault_reply (codes "D1") (on_side side derived base) → IsCounterReply texts s told derived base reply
  missing_so f side reply is applies so = record {
    derivation = missing side;
    is_derivation = missing_is s derived base f side is applies;
    found = None;
    is_shown = tt;
    is_line = tt;
    is_reply = so;
  }

  pub unusable_so : (f : DeriveFault) (side : Side) (reply : ReplyValue) → f ≡ Unusable side
      → (is_no_memory f ≡ false → derive_refusal s derived base ≡ Some f)
      → reply ≡ fault_reply (codes "D2") (on_side side derived base) → IsCounterReply texts s told derived base reply
  unusable_so f side reply is applies so = record {
    derivation = unusable side;
    is_derivation = unusable_is s derived base f side is applies;
    found = None;
    is_shown = tt;
    is_line = tt;
    is_reply = so;
  }

-- where no certificate exists the status isn't 0
pub shown_not_zero : (s : SchemaValue) (told : Text) (pair : Pair) (rule : RuleName) (found : Option Text) (reply : ReplyValue) (A : Type 0)
    → reply ≡ shown_reply s told pair rule found → status_of reply ≡ 0 → A
shown_not_zero s told pair rule None reply A so zero =
    let two : 2 ≡ 0 = sym (status_noted told (wrong_text s pair rule) 2) ∙ ap status_of (sym so) ∙ zero in absurd (false≢true (ap (λ n. nat_eq n 0) two))
shown_not_zero s told pair rule (Some bytes) reply A so zero =
    let one : 1 ≡ 0 = sym (status_noted told (bytes ++ codes "\n") 1) ∙ ap status_of (sym so) ∙ zero in absurd (false≢true (ap (λ n. nat_eq n 0) one))
