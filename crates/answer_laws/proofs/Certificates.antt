-- What is told of two profiles, and of a certificate, by the status of what is answered.
use Rattle.std.proofs.Common.{◌≡◌, ◌↔◌, ◌++◌, Bool, true, false, ◌&&◌, eqb, [], Option, None, Some, is_some, is_none, cond, Result, Ok, Err, codes, IsTrue, refl, sym, ap, ◌∙◌, subst}
use Rattle.std.specs.Prelude.{IfSome}
use Rattle.std.specs.Option.{option_and_then, option_map}
use Rattle.std.proofs.lemmas.Bool.{false≢true}
use Rattle.fhir_json.specs.Tree.{Text}
use Rattle.fhir_elements.specs.declared.reason.Reason.{Reason}
use Rattle.fhir_nodes.specs.declared.node.NodeRef.{NodeRef}
use Rattle.fhir_schema.specs.Schemas.{SchemaValue, root, unusable}
use Rattle.fhir_certificate.specs.declared.fault.CertFault.{CertFault}
use Rattle.fhir_certificate.specs.declared.pair.NodePair.{NodePair}
use Rattle.fhir_certificate.specs.declared.pair.Pair.{Pair}
use Rattle.fhir_certificate.specs.Certificate.{CertificateValue}
use Rattle.fhir_certificate.specs.Reading.{reading}
use Rattle.fhir_cert_check.specs.Checking.{IsCertificate, is_among, answer_of}
use Rattle.fhir_cert_check.specs.Inclusion.{Includes}
use Rattle.fhir_cert_check.specs.Rule.{RuleName}
use Rattle.fhir_derive_check.specs.declared.fault.DeriveFault.{DeriveFault}
use Rattle.fhir_derive_check.specs.declared.fault.Side.TheVariants.{Derived, Base}
use Rattle.fhir_derive_check.specs.Deriving.{IsDerived}
use Rattle.fhir_derive_check.specs.Faults.{is_missing, is_unusable, first_side, refusal, derive_refusal}
use Rattle.fhir_derive_check.specs.Reaching.{HasCertificate, roots_between}
use Rattle.fhir_counter.specs.Shows.{Shows, ShowsBy, is_on_line}
use Rattle.fhir_findings.specs.Finding.{selected_unusable}
use Rattle.fhir_replies.specs.Deriving.{Derivation, derives, fails, missing, IsDerivationOf}
use Rattle.fhir_replies.specs.Deriving.{unusable as unusable_side}
use Rattle.fhir_words.specs.declared.request.Manner.{Manner}
use Rattle.fhir_answers.specs.Answering.{IsDerivationReply, IsReported}
use Rattle.fhir_answers.specs.Replying.{ReplyValue, status_of, out_of, derivation_reply, counter_reply, checked_reply}
use Rattle.fhir_answers.specs.Session.{SessionValue, schema_in}
use Rattle.fhir_answers.specs.Showing.{IsCounterReply}
use Rattle.fhir_answers.specs.Status.{code_of, report_status}
use Rattle.answer_laws.proofs.Refuted.{AreFair, refuted}
use Rattle.answer_laws.proofs.Standings.{unrooted}

-- ---- a certificate excludes a refusal

module _ (s : SchemaValue) (url : Text) (has_root : root s url ≡ None → ⊥) where
  not_missing : is_missing s url ≡ false
  not_missing = by (root s url) refl
    where
      by : (o : Option NodeRef) → root s url ≡ o → (is_none o && is_none (unusable s url)) ≡ false
      by None e = absurd (has_root e)
      by (Some n) e = refl

  not_unusable : is_unusable s url ≡ false
  not_unusable = by (unusable s url) refl
    where
      by : (o : Option Reason) → unusable s url ≡ o → is_some o ≡ false
      by None e = refl
      by (Some reason) e = absurd (has_root (unrooted s url reason e))

module _ (s : SchemaValue) (derived base : Text) where
  no_side : (test : Text → Bool) → test derived ≡ false → test base ≡ false → first_side test derived base ≡ None
  no_side test d b = ap (λ x. cond x (Some Derived) (cond (test base) (Some Base) None)) d ∙ ap (λ x. cond x (Some Base) None) b

  left_rooted : (roots : NodePair) → roots_between s derived base ≡ Some roots → root s derived ≡ None → ⊥
  left_rooted roots are none =
      false≢true (ap is_some (sym (ap (λ o. option_and_then (λ n. option_map (λ m. record { derived = n; base = m }) (root s base)) o) none) ∙ are))

  right_rooted : (roots : NodePair) → roots_between s derived base ≡ Some roots → root s base ≡ None → ⊥
  right_rooted roots are none = by (root s derived) are
    where
      by : (o : Option NodeRef) → option_and_then (λ n. option_map (λ m. record { derived = n; base = m }) (root s base)) o ≡ Some roots → ⊥
      by None e = false≢true (ap is_some e)
      by (Some n) e = false≢true (ap is_some (sym (ap (option_map (λ m. record { derived = n; base = m })) none) ∙ e))

  unrefused : HasCertificate s derived base → derive_refusal s derived base ≡ None
  unrefused has =
      let d = left_rooted has.roots has.are_roots in
      let b = right_rooted has.roots has.are_roots in
      ap (λ side. refusal side (first_side (is_unusable s) derived base))
      (no_side (is_missing s) (not_missing s derived d) (not_missing s base b))
      ∙ ap (refusal None) (no_side (is_unusable s) (not_unusable s derived d) (not_unusable s base b))

  pub some_refusal : (fault : DeriveFault) → derive_refusal s derived base ≡ Some fault → HasCertificate s derived base → ⊥
  some_refusal fault is has = false≢true (ap is_some (sym (unrefused has) ∙ is))

  has_certificate : (c : CertificateValue) → IsDerived s derived base c × IsCertificate s c → HasCertificate s derived base
  has_certificate c h =
      subst (λ b. HasCertificate s derived b) h.0.base_is
      (subst (λ d. HasCertificate s d c.base) h.0.derived_is (record {
        roots = h.1.roots;
        are_roots = h.1.are_roots;
        tenable = record { set = is_among c; has = h.1.rooted; right = h.1.right };
      }))

  -- ---- `derive`

  derived_by : (d : Derivation) → IsDerivationOf s derived base d → status_of (derivation_reply s derived base d) ≡ 0 → HasCertificate s derived base
  derived_by (derives c) h e = has_certificate c h
  derived_by (fails pair rule) h e = absurd (false≢true (ap (eqb 0) e))
  derived_by (missing side) h e = absurd (false≢true (ap (eqb 0) e))
  derived_by (unusable_side side) h e = absurd (false≢true (ap (eqb 0) e))

  underived_by : (d : Derivation) → IsDerivationOf s derived base d → status_of (derivation_reply s derived base d) ≡ 1
      → HasCertificate s derived base → ⊥
  underived_by (derives c) h e = absurd (false≢true (ap (eqb 1) e))
  underived_by (fails pair rule) h e = h.1
  underived_by (missing side) h e = absurd (false≢true (ap (eqb 1) e))
  underived_by (unusable_side side) h e = absurd (false≢true (ap (eqb 1) e))

  derives_then : (d : Derivation) → IsDerivationOf s derived base d → HasCertificate s derived base → status_of (derivation_reply s derived base d) ≡ 0
  derives_then (derives c) h has = refl
  derives_then (fails pair rule) h has = absurd (h.1 has)
  derives_then (missing side) h has = absurd (some_refusal _ h has)
  derives_then (unusable_side side) h has = absurd (some_refusal _ h has)

  -- ---- `counter`

  abbrev shown_as : Option Text → Derivation → ReplyValue
  shown_as found d = counter_reply s [] derived base found d

  countered_yes : (found : Option Text) (d : Derivation) → IsDerivationOf s derived base d → status_of (shown_as found d) ≡ 0 → HasCertificate s derived base
  countered_yes found (derives c) h e = has_certificate c h
  countered_yes None (fails pair rule) h e = absurd (false≢true (ap (eqb 0) e))
  countered_yes (Some bytes) (fails pair rule) h e = absurd (false≢true (ap (eqb 0) e))
  countered_yes found (missing side) h e = absurd (false≢true (ap (eqb 0) e))
  countered_yes found (unusable_side side) h e = absurd (false≢true (ap (eqb 0) e))

  countered_then : (found : Option Text) (d : Derivation) → IsDerivationOf s derived base d → HasCertificate s derived base → status_of (shown_as found d) ≡ 0
  countered_then found (derives c) h has = refl
  countered_then found (fails pair rule) h has = absurd (h.1 has)
  countered_then found (missing side) h has = absurd (some_refusal _ h has)
  countered_then found (unusable_side side) h has = absurd (some_refusal _ h has)

  countered_open : (found : Option Text) (d : Derivation) → IsDerivationOf s derived base d → status_of (shown_as found d) ≡ 2
      → HasCertificate s derived base → ⊥
  countered_open found (derives c) h e = absurd (false≢true (ap (eqb 2) e))
  countered_open found (fails pair rule) h e = h.1
  countered_open found (missing side) h e = absurd (false≢true (ap (eqb 2) e))
  countered_open found (unusable_side side) h e = absurd (false≢true (ap (eqb 2) e))

  countered_no : (IsSo : Text → Type 0) (found : Option Text) (d : Derivation) → IfSome found IsSo → status_of (shown_as found d) ≡ 1
      → (resource : Text) × (out_of (shown_as found d) ≡ resource ++ codes "\n") × IsSo resource
  countered_no IsSo found (derives c) so e = absurd (false≢true (ap (eqb 1) e))
  countered_no IsSo None (fails pair rule) so e = absurd (false≢true (ap (eqb 1) e))
  countered_no IsSo (Some bytes) (fails pair rule) so e = (bytes, refl, so)
  countered_no IsSo found (missing side) so e = absurd (false≢true (ap (eqb 1) e))
  countered_no IsSo found (unusable_side side) so e = absurd (false≢true (ap (eqb 1) e))

  -- ---- the replies

  module _ (reply : ReplyValue) (is : IsDerivationReply s derived base reply) where
    pub derived_at : status_of reply ≡ 0 → HasCertificate s derived base
    derived_at e = derived_by is.derivation is.is_derivation (sym (ap status_of is.is_reply) ∙ e)

    pub underived_at : status_of reply ≡ 1 → HasCertificate s derived base → ⊥
    underived_at e = underived_by is.derivation is.is_derivation (sym (ap status_of is.is_reply) ∙ e)

    pub derived_then : HasCertificate s derived base → status_of reply ≡ 0
    derived_then has = ap status_of is.is_reply ∙ derives_then is.derivation is.is_derivation has

  module _ (reply : ReplyValue) (is : IsCounterReply None s [] derived base reply) where
    pub yes_at : status_of reply ≡ 0 → HasCertificate s derived base
    yes_at e = countered_yes is.found is.derivation is.is_derivation (sym (ap status_of is.is_reply) ∙ e)

    pub yes_then : HasCertificate s derived base → status_of reply ≡ 0
    yes_then has = ap status_of is.is_reply ∙ countered_then is.found is.derivation is.is_derivation has

    pub open_at : status_of reply ≡ 2 → HasCertificate s derived base → ⊥
    open_at e = countered_open is.found is.derivation is.is_derivation (sym (ap status_of is.is_reply) ∙ e)

    found_at : (IsSo : Text → Type 0) → IfSome is.found IsSo → status_of reply ≡ 1
        → (resource : Text) × (out_of reply ≡ resource ++ codes "\n") × IsSo resource
    found_at IsSo so e =
        let it = countered_no IsSo is.found is.derivation so (sym (ap status_of is.is_reply) ∙ e) in
        (it.0, ap out_of is.is_reply ∙ it.1, it.2)

    pub no_at : status_of reply ≡ 1 → (resource : Text) × (out_of reply ≡ resource ++ codes "\n") × Shows s derived base resource
    no_at = found_at (Shows s derived base) is.is_shown

    pub line_at : status_of reply ≡ 1 → (line : Text) × (out_of reply ≡ line ++ codes "\n") × IsTrue (is_on_line line)
    line_at = found_at (λ line. IsTrue (is_on_line line)) is.is_line

    pub refuted_at : AreFair → status_of reply ≡ 1 → Includes s derived base → ⊥
    refuted_at fair e =
        let it = no_at e in refuted fair s derived base it.0 it.2

-- ---- `certify`

module _ (name : Text) (s : SchemaValue) where
  right_by : (r : Result (Option (Pair × RuleName)) CertFault) → status_of (checked_reply name s r) ≡ 0 → r ≡ Ok None
  right_by (Ok None) e = refl
  right_by (Ok (Some failing)) e = absurd (false≢true (ap (eqb 0) e))
  right_by (Err fault) e = absurd (false≢true (ap (eqb 0) e))

  wrong_by : (r : Result (Option (Pair × RuleName)) CertFault) → status_of (checked_reply name s r) ≡ 1
      → (failing : Pair × RuleName) × (r ≡ Ok (Some failing))
  wrong_by (Ok None) e = absurd (false≢true (ap (eqb 1) e))
  wrong_by (Ok (Some failing)) e = (failing, refl)
  wrong_by (Err fault) e = absurd (false≢true (ap (eqb 1) e))

  unread_by : (r : Result (Option (Pair × RuleName)) CertFault) → status_of (checked_reply name s r) ≡ 3 → (fault : CertFault) × (r ≡ Err fault)
  unread_by (Ok None) e = absurd (false≢true (ap (eqb 3) e))
  unread_by (Ok (Some failing)) e = absurd (false≢true (ap (eqb 3) e))
  unread_by (Err fault) e = (fault, refl)

  module _ (r : Result (Option (Pair × RuleName)) CertFault) (reply : ReplyValue) (is : reply ≡ checked_reply name s r) where
    pub right_at : (status_of reply ≡ 0) ↔ (r ≡ Ok None)
    right_at = (λ e. right_by r (sym (ap status_of is) ∙ e), λ none. ap status_of is ∙ ap (λ r. status_of (checked_reply name s r)) none)

    pub wrong_at : status_of reply ≡ 1 → (failing : Pair × RuleName) × (r ≡ Ok (Some failing))
    wrong_at e = wrong_by r (sym (ap status_of is) ∙ e)

    pub unread_at : status_of reply ≡ 3 → (fault : CertFault) × (r ≡ Err fault)
    unread_at e = unread_by r (sym (ap status_of is) ∙ e)

-- ---- `check`

clean_by : (is_clean : Bool) → code_of (report_status is_clean) ≡ 0 → is_clean ≡ true
clean_by true e = refl
clean_by false e = absurd (false≢true (ap (eqb 0) e))

pub clean_at : (manner : Manner) (s : SessionValue) (reply : ReplyValue) → IsReported manner None s None reply
    → (status_of reply ≡ 0) ↔ ((s.survey.faults ≡ []) × (selected_unusable None (schema_in s) s.survey ≡ []))
clean_at manner s reply is = (
  λ e. let right = is.all_right.0 (clean_by is.is_clean (sym (ap status_of is.is_reply) ∙ e)) in (right.0, right.1),
  λ h. ap status_of is.is_reply ∙ ap (λ b. code_of (report_status b)) (is.all_right.1 (h.0, h.1, tt)),
)

pub clean_with : (manner : Manner) (s : SessionValue) (name bytes : Text) (reply : ReplyValue) → IsReported manner None s (Some (name, bytes)) reply
    → (status_of reply ≡ 0)
    ↔ ((s.survey.faults ≡ []) × (selected_unusable None (schema_in s) s.survey ≡ []) × (answer_of (reading (schema_in s) bytes) (schema_in s) ≡ Ok None))
clean_with manner s name bytes reply is = (
  λ e. is.all_right.0 (clean_by is.is_clean (sym (ap status_of is.is_reply) ∙ e)),
  λ h. ap status_of is.is_reply ∙ ap (λ b. code_of (report_status b)) (is.all_right.1 h),
)
