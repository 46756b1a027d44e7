-- What is shown of two profiles, by what `diagnose` answers.
use Rattle.std.proofs.Common.{◌≡◌, ◌↔◌, true, false, Option, None, Some, is_some, IsSome, IfSome, IsTrue, sym, ap, ◌∙◌, subst}
use Rattle.std.proofs.lemmas.Bool.{false≢true}
use Rattle.std.specs.Option.{option_map}
use Rattle.fhir_json.specs.Tree.{Text}
use Rattle.fhir_schema.specs.Schemas.{SchemaValue}
use Rattle.fhir_certificate.specs.Certificate.{CertificateValue}
use Rattle.fhir_certificate.specs.declared.pair.Pair.{Pair}
use Rattle.fhir_cert_check.specs.declared.rule.Rule.{Rule}
use Rattle.fhir_cert_check.specs.Views.{rule_name}
use Rattle.fhir_cert_check.specs.Inclusion.{Includes}
use Rattle.fhir_derive_check.specs.declared.outcome.Outcome.{Outcome}
use Rattle.fhir_derive_check.specs.declared.outcome.Outcome.TheVariants.{Derives, NoCertificate}
use Rattle.fhir_derive_check.specs.declared.fault.DeriveFault.{DeriveFault}
use Rattle.fhir_derive_check.specs.Views.{certificate_of, failing_of}
use Rattle.fhir_derive_check.specs.Blaming.{IsToBlame}
use Rattle.fhir_derive_check.specs.Faults.{derive_refusal, is_no_memory}
use Rattle.fhir_derive_check.specs.Reaching.{HasCertificate}

module _ (s : SchemaValue) (derived base : Text) where
  pub narrows_so : (o : Outcome) (certificate : CertificateValue) → o ≡ Derives certificate
      → ((is_some (certificate_of o) ≡ true) ↔ HasCertificate s derived base) → HasCertificate s derived base
  narrows_so o certificate is exactly = exactly.0 (ap (λ (x : Outcome). is_some (certificate_of x)) is)

  pub includes_so : (o : Outcome) (certificate : CertificateValue) → o ≡ Derives certificate
      → (IsTrue (is_some (certificate_of o)) → Includes s derived base) → Includes s derived base
  includes_so o certificate is includes = includes (ap (λ (x : Outcome). is_some (certificate_of x)) is)

  pub none_so : (o : Outcome) (pair : Pair) (rule : Rule) → o ≡ NoCertificate pair rule
      → ((is_some (certificate_of o) ≡ true) ↔ HasCertificate s derived base) → HasCertificate s derived base → ⊥
  none_so o pair rule is exactly has = false≢true (sym (ap (λ (x : Outcome). is_some (certificate_of x)) is) ∙ exactly.1 has)

  pub blamed_so : (o : Outcome) (pair : Pair) (rule : Rule) → o ≡ NoCertificate pair rule
      → IfSome (failing_of o) (λ f. IsToBlame s derived base f.0 f.1) → IsToBlame s derived base pair (rule_name rule)
  blamed_so o pair rule is first = subst (λ (x : Outcome). IfSome (failing_of x) (λ f. IsToBlame s derived base f.0 f.1)) is first

  pub refused_so : (fault : DeriveFault) → is_no_memory fault ≡ false
      → (is_no_memory fault ≡ false → derive_refusal s derived base ≡ Some fault) → IsSome (derive_refusal s derived base)
  refused_so fault other refused = ap (λ (o : Option DeriveFault). is_some o) (refused other)

pub some_map : {A B : Type 0} (f : A → B) (o : Option A) (P : B → Type 0) → IfSome o (λ x. P (f x)) → IfSome (option_map f o) P
some_map f None P h = h
some_map f (Some x) P h = h
