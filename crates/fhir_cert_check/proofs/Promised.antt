-- What an answer says, and what a right certificate promises of its two profiles.
use Rattle.std.proofs.Common.{◌≡◌, Bool, Option, Some, None, refl, sym, ap, subst, ◌∙◌, IsTrue}
use Rattle.std.specs.Prelude.{◌↔◌, Result, Ok, Err, IfOk}
use Rattle.fhir_json.specs.declared.memory.NoMemory.{NoMemory}
use Rattle.fhir_json.specs.Memory.{Gives}
use Rattle.std.specs.Option.{option_map, option_and_then}
use Rattle.std.proofs.lemmas.Bool.{false≢true}
use Rattle.std.proofs.lemmas.Option.{none-some, same_Some}
use Rattle.fhir_nodes.specs.declared.node.NodeRef.{NodeRef}
use Rattle.fhir_schema.specs.Schemas.{SchemaValue, root}
use Rattle.fhir_conformance.specs.Conformance.{outermost}
use Rattle.fhir_certificate.specs.declared.pair.NodePair.{NodePair}
use Rattle.fhir_certificate.specs.declared.pair.Pair.{Pair}
use Rattle.fhir_certificate.specs.Certificate.{CertificateValue}
use Rattle.fhir_cert_check.specs.declared.answer.Answer.{Answer}
use Rattle.fhir_cert_check.specs.declared.answer.Answer.TheVariants.{Yes, No}
use Rattle.fhir_cert_check.specs.Rules.{has_item_pair}
use Rattle.fhir_cert_check.specs.Checking.{is_among, roots_of, IsRight, IsCertificate, pairs_of, first_wrong, wrong_with}
use Rattle.fhir_cert_check.specs.Inclusion.{IncludesItems, Includes}
use Rattle.fhir_cert_check.specs.Views.{is_yes, wrong_in, rule_name}
use Rattle.fhir_cert_check.specs.PairSet.{PairLists, has_pair}
use Rattle.fhir_cert_check.proofs.Certified.{wrong_or_not}

yes_none : (a : Answer) → IsTrue (is_yes a) → wrong_in a ≡ None
yes_none Yes h = refl
yes_none (No pair rule) h = absurd (false≢true h)

none_yes : (a : Answer) → wrong_in a ≡ None → IsTrue (is_yes a)
none_yes Yes e = refl
none_yes (No pair rule) e = absurd (none-some (pair, rule_name rule) (sym e))

-- the set answers as the certificate
pub same_set : (v : PairLists) (c : CertificateValue) → ((p : Pair) → has_pair v p ≡ is_among c p) → has_pair v ≡ is_among c
same_set v c same = λ j p. same p j

-- what holds of each answer that is given holds of the one that is
pub on_given : {A X : Type 0} (view : A → X) (r : Result A NoMemory) (x : X) (P : A → Type 0) → ((a : A) → view a ≡ x → P a) → Gives view r x → IfOk r P
on_given view (Ok a) x P f e = f a e
on_given view (Err e) x P f h = tt

pub given_by_certificate : (s : SchemaValue) (v : PairLists) (c : CertificateValue) (roots : NodePair) (r : Result Answer NoMemory) → ((p : Pair) → has_pair v p ≡ is_among c p)
    → Gives wrong_in r (first_wrong s (has_pair v) roots (pairs_of c)) → Gives wrong_in r (wrong_with s c roots)
given_by_certificate s v c roots r same = subst (λ pairs. Gives wrong_in r (first_wrong s pairs roots (pairs_of c))) (same_set v c same)

pub yes_exactly : (s : SchemaValue) (c : CertificateValue) (roots : NodePair) (a : Answer) → roots_of s c ≡ Some roots → wrong_in a ≡ wrong_with s c roots
    → IsTrue (is_yes a) ↔ IsCertificate s c
yes_exactly s c roots a are_roots e = (
  λ yes. (wrong_or_not s c roots are_roots).0 (sym e ∙ yes_none a yes),
  λ cert. none_yes a (e ∙ (wrong_or_not s c roots are_roots).1 cert),
)

-- the nodes of the roots
roots_parts : (o p : Option NodeRef) (roots : NodePair) → option_and_then (λ n. option_map (λ m. record { derived = n; base = m }) p) o ≡ Some roots
    → (o ≡ Some roots.derived) × (p ≡ Some roots.base)
roots_parts None p roots e = absurd (none-some roots e)
roots_parts (Some n) None roots e = absurd (none-some roots e)
roots_parts (Some n) (Some m) roots e =
    let same = same_Some (record { derived = n; base = m }) roots e in
    (ap (λ r. Some r.derived) same, ap (λ r. Some r.base) same)

module _ (s : SchemaValue) (c : CertificateValue)
    (includes : (pairs : Pair → Bool) → IsRight s pairs → (n m : NodeRef) → IsTrue (has_item_pair pairs n m) → IncludesItems s n m)
    (cert : IsCertificate s c) where
  parts : (root s c.derived ≡ Some cert.roots.derived) × (root s c.base ≡ Some cert.roots.base)
  parts = roots_parts (root s c.derived) (root s c.base) cert.roots cert.are_roots

  of_roots : IncludesItems s cert.roots.derived cert.roots.base
  of_roots = includes (is_among c) cert.right cert.roots.derived cert.roots.base cert.rooted

  pub items_promised : (n m : NodeRef) → root s c.derived ≡ Some n → root s c.base ≡ Some m → IncludesItems s n m
  items_promised n m is_n is_m =
      subst (λ k. IncludesItems s k m) (same_Some cert.roots.derived n (sym parts.0 ∙ is_n))
      (subst (λ k. IncludesItems s cert.roots.derived k) (same_Some cert.roots.base m (sym parts.1 ∙ is_m)) of_roots)

  pub promised : Includes s c.derived c.base
  promised meaning fair t conforming = record {
    node = cert.roots.base;
    itself = conforming.itself;
    usable = parts.1;
    typed = conforming.typed;
    holds = items_promised conforming.node cert.roots.base conforming.usable parts.1 meaning fair (outermost conforming.itself) conforming.itself conforming.holds;
  }
