-- What conforms to a profile that narrows its base isn't told otherwise of the base.
use Rattle.std.proofs.Common.{◌≡◌, Bool, false, is_some, Result, Ok, Err, eqb, ap, sym, ◌∙◌, refl, subst}
use Rattle.std.specs.Prelude.{IsSome}
use Rattle.std.proofs.lemmas.Bool.{false≢true}
use Rattle.fhir_json.specs.Tree.{Text, Tree}
use Rattle.fhir_json.specs.Grammar.{Reads}
use Rattle.fhir_schema.specs.Schemas.{SchemaValue, root}
use Rattle.fhir_conformance.specs.Conformance.{Interpretation, Conforms, constant}
use Rattle.fhir_validator.specs.declared.fault.Fault.{Fault}
use Rattle.fhir_validator.specs.declared.verdict.Verdict.{Verdict}
use Rattle.fhir_validator.specs.declared.verdict.Verdict.TheVariants as verdicts
use Rattle.fhir_certificate.specs.Certificate.{CertificateValue}
use Rattle.fhir_cert_check.specs.Checking.{IsCertificate}
use Rattle.fhir_cert_check.specs.Inclusion.{Includes}
use Rattle.fhir_replies.specs.Deriving.{Derivation, derives, fails, missing, unusable, IsDerivationOf}
use Rattle.fhir_replies.specs.Standing.{Stands}
use Rattle.fhir_answers.specs.Answering.{IsAnswered, IsDerivationReply}
use Rattle.fhir_answers.specs.Replying.{ReplyValue, status_of, derivation_reply}
use Rattle.fhir_derive_check.proofs.Rooted.{both-roots}
use Rattle.answer_laws.proofs.Refuted.{AreFair}
use Rattle.answer_laws.proofs.Standings.{no_fault, number, its_status, conforms_by}

-- what a certificate that is derived promises, where the base has a root
record Narrows (s : SchemaValue) (derived base : Text) : Type 0 where
  includes : Includes s derived base
  rooted : IsSome (root s base)

abbrev pub CertificatesInclude : Type 0
CertificatesInclude = (s : SchemaValue) (c : CertificateValue) → IsCertificate s c → Includes s c.derived c.base

narrows_by : CertificatesInclude → (s : SchemaValue) (derived base : Text) (d : Derivation) → IsDerivationOf s derived base d
    → status_of (derivation_reply s derived base d) ≡ 0 → Narrows s derived base
narrows_by law s derived base (derives c) h e =
    record {
      includes = subst (λ (b : Text). Includes s derived b) h.0.base_is (subst (λ (d : Text). Includes s d c.base) h.0.derived_is (law s c h.1));
      rooted = ap is_some (both-roots (root s derived) (root s base) h.0.roots h.0.are_roots).1;
    }
narrows_by law s derived base (fails pair rule) h e = absurd (false≢true (ap (eqb 0) e))
narrows_by law s derived base (missing side) h e = absurd (false≢true (ap (eqb 0) e))
narrows_by law s derived base (unusable side) h e = absurd (false≢true (ap (eqb 0) e))

module _ (law : CertificatesInclude) (fair : AreFair) (one : (bytes : Text) (t u : Tree) → Reads bytes t → Reads bytes u → t ≡ u)
    (s : SchemaValue) (derived base bytes : Text) where
  module _ (narrows : Narrows s derived base) (t : Tree) (reads : Reads bytes t) (always : (meaning : Interpretation) → Conforms s meaning derived t) where
    conforms : (b : Bool) (u : Tree) → Reads bytes u → Conforms s (constant b) base u
    conforms b u other =
        subst (Conforms s (constant b) base) (one bytes t u reads other) (narrows.includes (constant b) (fair s b) t (always (constant b)))

    stands : (v : Result Verdict Fault) → Stands s base bytes v → number s base bytes v ≡ 0
    stands (Ok verdicts.Conforms) h = refl
    stands (Ok (verdicts.Violates issues)) h = absurd (h.2 (constant false) (conforms false h.0 h.1))
    stands (Ok (verdicts.Open sites)) h = absurd (h.2.0 (conforms false h.0 h.1))
    stands (Err fault) h = absurd (no_fault s base bytes fault h t reads narrows.rooted)

  pub agrees : (made of_derived of_base : ReplyValue) → IsDerivationReply s derived base made → status_of made ≡ 0
      → IsAnswered s derived bytes of_derived → status_of of_derived ≡ 0 → IsAnswered s base bytes of_base → status_of of_base ≡ 0
  agrees made of_derived of_base is_made made_status is_derived status is_base =
      let narrows = narrows_by law s derived base is_made.derivation is_made.is_derivation (sym (ap status_of is_made.is_reply) ∙ made_status) in
      let it = conforms_by s derived bytes of_derived is_derived status in
      its_status s base bytes of_base is_base ∙ stands narrows it.0 it.1 it.2 is_base.is_judged.validated is_base.is_judged.stands
