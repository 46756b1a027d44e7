-- Where a definition isn't there, or can't be used, no certificate exists.
use Rattle.std.proofs.Common.{◌≡◌, ℕ, Bool, true, false, ◌&&◌, Option, None, Some, is_none, is_some, refl, if◌then◌else◌}
use Rattle.std.specs.Option.{option_map, option_and_then}
use Rattle.fhir_json.specs.Tree.{Text}
use Rattle.fhir_elements.specs.declared.reason.Reason.{Reason}
use Rattle.fhir_nodes.specs.declared.node.NodeRef.{NodeRef}
use Rattle.fhir_nodes.specs.Urls.{url_place}
use Rattle.fhir_schema.specs.Settling.{reason_at}
use Rattle.fhir_schema.specs.Schemas.{SchemaValue, root, root_in, root_element, unusable}
use Rattle.fhir_certificate.specs.declared.pair.NodePair.{NodePair}
use Rattle.fhir_derive_check.specs.declared.fault.Side.TheVariants.{Derived, Base}
use Rattle.fhir_derive_check.specs.declared.fault.DeriveFault.{DeriveFault}
use Rattle.fhir_derive_check.specs.Faults.{is_missing, is_unusable, refusal, derive_refusal}
use Rattle.fhir_derive_check.specs.Reaching.{HasCertificate}

-- ---- no root

by_reason : (o : Option Reason) (x : Option NodeRef) → is_some o ≡ true → (if is_none o then x else None) ≡ None
by_reason None x e = cc
by_reason (Some r) x e = refl

unusable_root : (s : SchemaValue) (url : Text) → is_unusable s url ≡ true → root s url ≡ None
unusable_root s url e = go (url_place s.definitions url) e
  where
    go : (p : Option ℕ) → is_some (option_and_then (reason_at s.reasons) p) ≡ true → option_and_then (root_in s) p ≡ None
    go None f = refl
    go (Some place) f = by_reason (reason_at s.reasons place) (option_map (λ e. record { definition = place; element = e }) (root_element s place)) f

missing_root : (s : SchemaValue) (url : Text) → is_missing s url ≡ true → root s url ≡ None
missing_root s url e = go (root s url) (is_none (unusable s url)) e
  where
    go : (o : Option NodeRef) (b : Bool) → (is_none o && b) ≡ true → o ≡ None
    go None b f = refl
    go (Some n) b f = cc

-- ---- no pair of roots

pairs : NodeRef → Option NodeRef → Option NodePair
pairs n base = option_map (λ m. record { derived = n; base = m }) base

no_derived : (d b : Option NodeRef) (p : NodePair) → option_and_then (λ n. pairs n b) d ≡ Some p → d ≡ None → ⊥
no_derived None b p e f = cc
no_derived (Some n) b p e f = cc

no_base : (d b : Option NodeRef) (p : NodePair) → option_and_then (λ n. pairs n b) d ≡ Some p → b ≡ None → ⊥
unfolding pairs
no_base None b p e f = cc
no_base (Some n) None p e f = cc
no_base (Some n) (Some m) p e f = cc

-- one of four tests tells why it is refused
refused_by : {X : Type 0} (md mb ud ub : Bool) (f : DeriveFault)
    → refusal (if md then Some Derived else (if mb then Some Base else None)) (if ud then Some Derived else (if ub then Some Base else None)) ≡ Some f
    → (md ≡ true → X) → (mb ≡ true → X) → (ud ≡ true → X) → (ub ≡ true → X) → X
refused_by true mb ud ub f e a b c d = a refl
refused_by false true ud ub f e a b c d = b refl
refused_by false false true ub f e a b c d = c refl
refused_by false false false true f e a b c d = d refl
refused_by false false false false f e a b c d = absurd cc

pub refused_none : (s : SchemaValue) (derived base : Text) (f : DeriveFault) → derive_refusal s derived base ≡ Some f → HasCertificate s derived base → ⊥
unfolding pairs
refused_none s derived base f e h =
    refused_by (is_missing s derived) (is_missing s base) (is_unusable s derived) (is_unusable s base) f e
    (λ x. no_derived (root s derived) (root s base) h.roots h.are_roots (missing_root s derived x))
    (λ x. no_base (root s derived) (root s base) h.roots h.are_roots (missing_root s base x))
    (λ x. no_derived (root s derived) (root s base) h.roots h.are_roots (unusable_root s derived x))
    (λ x. no_base (root s derived) (root s base) h.roots h.are_roots (unusable_root s base x))
