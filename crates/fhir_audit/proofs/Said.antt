-- What is said of a profile and its base, from what is derived.
use Rattle.std.proofs.Common.{◌≡◌, ◌↔◌, List, true, false, is_some, Option, None, Some, IfSome, IsTrue, sym, ap, subst, ◌∙◌}
use Rattle.std.specs.Option.{option_map}
use Rattle.std.proofs.lemmas.Bool.{false≢true}
use Rattle.fhir_json.specs.Tree.{Text}
use Rattle.fhir_schema.specs.Schemas.{SchemaValue}
use Rattle.fhir_certificate.specs.declared.pair.Pair.{Pair}
use Rattle.fhir_certificate.specs.Certificate.{CertificateValue}
use Rattle.fhir_cert_check.specs.Checking.{IsCertificate}
use Rattle.fhir_cert_check.specs.Inclusion.{Includes}
use Rattle.fhir_cert_check.specs.Rule.{RuleName}
use Rattle.fhir_cert_check.specs.declared.rule.Rule.{Rule}
use Rattle.fhir_cert_check.specs.Views.{rule_name}
use Rattle.fhir_derive_check.specs.declared.fault.DeriveFault.{DeriveFault}
use Rattle.fhir_derive_check.specs.declared.fault.DeriveFault.TheVariants.{Missing, Unusable}
use Rattle.fhir_derive_check.specs.declared.fault.Side.{Side}
use Rattle.fhir_derive_check.specs.declared.outcome.Outcome.{Outcome}
use Rattle.fhir_derive_check.specs.declared.outcome.Outcome.TheVariants.{Derives, NoCertificate}
use Rattle.fhir_derive_check.specs.Deriving.{IsDerived}
use Rattle.fhir_derive_check.specs.Blaming.{IsToBlame}
use Rattle.fhir_derive_check.specs.Faults.{derive_refusal, is_no_memory}
use Rattle.fhir_derive_check.specs.Reaching.{HasCertificate}
use Rattle.fhir_derive_check.specs.Views.{certificate_of, failing_of}
use Rattle.fhir_counter.specs.Shows.{ShowsBy, is_on_line}
use Rattle.fhir_audit.specs.Verdicts.{VerdictValue, Narrows, IsRefuted, IsShownBy, verdict_by, IsShownVerdict, IsSaid}

-- what was found shows it, and stands on one line
pub shown_by : {X : Type 0} (texts : Option (List Text)) (s : SchemaValue) (url base : Text) (seen : X → Text) (found : Option X)
    → IfSome found (λ x. ShowsBy texts s url base (seen x)) → IfSome found (λ x. IsTrue (is_on_line (seen x)))
    → IfSome (option_map seen found) (IsShownBy texts s url base)
shown_by texts s url base seen None shown lined = tt
shown_by texts s url base seen (Some x) shown lined = record { shows = shown; on_line = lined }

module _ (texts : Option (List Text)) (s : SchemaValue) (url base : Text) where
  pub narrows_so : (o : Outcome) (c : CertificateValue) → o ≡ Derives c
      → ((is_some (certificate_of o) ≡ true) ↔ HasCertificate s url base)
      → IfSome (certificate_of o) (IsDerived s url base) → IfSome (certificate_of o) (IsCertificate s)
      → (IsTrue (is_some (certificate_of o)) → Includes s url base) → Narrows s url base c
  narrows_so o c is only reached right includes = record {
    exists = only.0 (ap (λ (x : Outcome). is_some (certificate_of x)) is);
    is_derived = subst (λ (x : Outcome). IfSome (certificate_of x) (IsDerived s url base)) is reached;
    is_right = subst (λ (x : Outcome). IfSome (certificate_of x) (IsCertificate s)) is right;
    includes = includes (ap (λ (x : Outcome). is_some (certificate_of x)) is);
  }

  refuted_so : (o : Outcome) (pair : Pair) (rule : Rule) → o ≡ NoCertificate pair rule
      → ((is_some (certificate_of o) ≡ true) ↔ HasCertificate s url base)
      → IfSome (failing_of o) (λ f. IsToBlame s url base f.0 f.1) → IsRefuted s url base pair (rule_name rule)
  refuted_so o pair rule is only failing = record {
    to_blame = subst (λ (x : Outcome). IfSome (failing_of x) (λ f. IsToBlame s url base f.0 f.1)) is failing;
    none = λ has. false≢true (sym (ap (λ (x : Outcome). is_some (certificate_of x)) is) ∙ only.1 has);
  }

  by_found : (pair : Pair) (rule : RuleName) (found : Option Text) (verdict : VerdictValue) → IsRefuted s url base pair rule
      → IfSome found (IsShownBy texts s url base) → verdict ≡ verdict_by pair rule found → IsSaid texts s url base verdict
  by_found pair rule None verdict refuted shown is = subst (IsSaid texts s url base) (sym is) refuted
  by_found pair rule (Some bytes) verdict refuted shown is = subst (IsSaid texts s url base) (sym is) (refuted, shown)

  pub fails_so : (o : Outcome) (pair : Pair) (rule : Rule) (verdict : VerdictValue) → o ≡ NoCertificate pair rule
      → ((is_some (certificate_of o) ≡ true) ↔ HasCertificate s url base)
      → IfSome (failing_of o) (λ f. IsToBlame s url base f.0 f.1)
      → IsShownVerdict texts s url base pair (rule_name rule) verdict → IsSaid texts s url base verdict
  fails_so o pair rule verdict is only failing shown =
      by_found pair (rule_name rule) shown.0 verdict (refuted_so o pair rule is only failing) shown.1 shown.2

  pub missing_so : (f : DeriveFault) (side : Side) → f ≡ Missing side → (is_no_memory f ≡ false → derive_refusal s url base ≡ Some f)
      → derive_refusal s url base ≡ Some (Missing side)
  missing_so f side is applies = applies (ap is_no_memory is) ∙ ap (λ (x : DeriveFault). Some x) is

  pub unusable_so : (f : DeriveFault) (side : Side) → f ≡ Unusable side → (is_no_memory f ≡ false → derive_refusal s url base ≡ Some f)
      → derive_refusal s url base ≡ Some (Unusable side)
  unusable_so f side is applies = applies (ap is_no_memory is) ∙ ap (λ (x : DeriveFault). Some x) is
