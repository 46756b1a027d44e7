-- Nothing is wrong exactly with a certificate.
use Rattle.std.proofs.Common.{◌≡◌, Bool, true, false, List, [], ◌∷◌, ◌++◌, map, Option, Some, None, refl, sym, ap, subst, ◌∙◌, inl, inr, IsTrue}
use Rattle.std.specs.Prelude.{◌↔◌, if◌then◌else◌}
use Rattle.std.specs.List.{list_any}
use Rattle.std.specs.Option.{option_map_or, option_or, is_none}
use Rattle.std.proofs.lemmas.Bool.{or_cases, or_left, or_right, false≢true, cond-true}
use Rattle.std.proofs.lemmas.Option.{none-some, same_Some}
use Rattle.fhir_schema.specs.Schemas.{SchemaValue}
use Rattle.fhir_certificate.specs.declared.pair.NodePair.{NodePair}
use Rattle.fhir_certificate.specs.declared.pair.Pair.{Pair}
use Rattle.fhir_certificate.specs.declared.pair.Pair.TheVariants.{Item, Kids}
use Rattle.fhir_certificate.specs.Certificate.{CertificateValue}
use Rattle.fhir_cert_check.specs.Rules.{rules_of, failing_rule, is_local}
use Rattle.fhir_cert_check.specs.Rule.{RuleName}
use Rattle.fhir_cert_check.specs.Rule.{root as no_roots}
use Rattle.fhir_cert_check.specs.Checking.{same_nodes, is_among, roots_of, IsRight, IsCertificate, pairs_of, first_in, wrong_with}
use Rattle.fhir_cert_check.proofs.First.{is_none-first_of}
use Rattle.fhir_cert_check.proofs.Orders.{same_nodes-true, same_nodes-refl}

pub first_in-append : (f : Pair → Option RuleName) (ps qs : List Pair) → first_in f (ps ++ qs) ≡ option_or (first_in f ps) (first_in f qs)
first_in-append f [] qs = refl
first_in-append f (p ∷ ps) qs = go (f p) (first_in-append f ps qs)
  where
    go : (o : Option RuleName) → first_in f (ps ++ qs) ≡ option_or (first_in f ps) (first_in f qs)
        → option_map_or (λ rule. Some (p, rule)) o (first_in f (ps ++ qs))
        ≡ option_or (option_map_or (λ rule. Some (p, rule)) o (first_in f ps)) (first_in f qs)
    go None e = e
    go (Some rule) e = refl

is_none-None : {A : Type 0} (o : Option A) → is_none o ≡ true → o ≡ None
is_none-None None h = refl
is_none-None (Some x) h = absurd (false≢true h)

-- a pair that fails no rule is local, and the other way round
pub local_at : (s : SchemaValue) (pairs : Pair → Bool) (p : Pair) → failing_rule pairs s p ≡ None → IsTrue (is_local pairs s p)
local_at s pairs p e = sym (is_none-first_of (rules_of pairs s p)) ∙ ap is_none e

pub fails_none : (s : SchemaValue) (pairs : Pair → Bool) (p : Pair) → IsTrue (is_local pairs s p) → failing_rule pairs s p ≡ None
fails_none s pairs p h = is_none-None (failing_rule pairs s p) (is_none-first_of (rules_of pairs s p) ∙ h)

module _ (wrap : NodePair → Pair) (f : Pair → Option RuleName) where
  -- where none of a list fails, a pair that is among them doesn't
  pub none_fails : (ps : List NodePair) → first_in f (map wrap ps) ≡ None → (p : NodePair) → IsTrue (list_any (same_nodes p) ps) → f (wrap p) ≡ None
  none_fails [] e p h = absurd (false≢true h)
  none_fails (x ∷ ps) e p h = go (f (wrap x)) refl e (none_fails ps)
    where
      go : (o : Option RuleName) → f (wrap x) ≡ o → option_map_or (λ rule. Some (wrap x, rule)) o (first_in f (map wrap ps)) ≡ None
          → (first_in f (map wrap ps) ≡ None → (p : NodePair) → IsTrue (list_any (same_nodes p) ps) → f (wrap p) ≡ None) → f (wrap p) ≡ None
      go (Some rule) is e rest = absurd (none-some (wrap x, rule) (sym e))
      go None is e rest =
          elim (or_cases (same_nodes p x) (list_any (same_nodes p) ps) h) [
            | inl here ↦ ap (λ q. f (wrap q)) (same_nodes-true p x here) ∙ is
            | inr there ↦ rest e p there
          ]

  all_fine : (ps : List NodePair) → ((p : NodePair) → IsTrue (list_any (same_nodes p) ps) → f (wrap p) ≡ None) → first_in f (map wrap ps) ≡ None
  all_fine [] h = refl
  all_fine (x ∷ ps) h =
      ap (λ o. option_map_or (λ rule. Some (wrap x, rule)) o (first_in f (map wrap ps)))
      (h x (or_left (same_nodes x x) (list_any (same_nodes x) ps) (same_nodes-refl x)))
      ∙ all_fine ps (λ p there. h p (or_right (same_nodes p x) (list_any (same_nodes p) ps) there))

either_none : {A : Type 0} (o p : Option A) → option_or o p ≡ None → (o ≡ None) × (p ≡ None)
either_none None p e = (refl, e)
either_none (Some x) p e = absurd (none-some x (sym e))

module _ (s : SchemaValue) (c : CertificateValue) (roots : NodePair) (are_roots : roots_of s c ≡ Some roots) where
  is_certificate : (b : Bool) → is_among c (Item roots) ≡ b → (if b then first_in (failing_rule (is_among c) s) (pairs_of c) else Some (Item roots, no_roots)) ≡ None
      → IsCertificate s c
  is_certificate false is e = absurd (none-some (Item roots, no_roots) (sym e))
  is_certificate true is e =
      let parts = either_none (first_in (failing_rule (is_among c) s) (map Item c.items)) (first_in (failing_rule (is_among c) s) (map Kids c.kids))
      (sym (first_in-append (failing_rule (is_among c) s) (map Item c.items) (map Kids c.kids)) ∙ e) in
      record { roots = roots; are_roots = are_roots; rooted = is; right = each parts.0 parts.1 }
    where
      each : first_in (failing_rule (is_among c) s) (map Item c.items) ≡ None → first_in (failing_rule (is_among c) s) (map Kids c.kids) ≡ None → IsRight s (is_among c)
      each items kids (Item p) h = local_at s (is_among c) (Item p) (none_fails Item (failing_rule (is_among c) s) c.items items p h)
      each items kids (Kids p) h = local_at s (is_among c) (Kids p) (none_fails Kids (failing_rule (is_among c) s) c.kids kids p h)

  nothing_wrong : IsCertificate s c → wrong_with s c roots ≡ None
  nothing_wrong cert =
      let rooted = subst (λ p. IsTrue (is_among c (Item p))) (same_Some cert.roots roots (sym cert.are_roots ∙ are_roots)) cert.rooted in
      cond-true (is_among c (Item roots)) _ _ rooted
      ∙ first_in-append (failing_rule (is_among c) s) (map Item c.items) (map Kids c.kids)
      ∙ ap (λ o. option_or o (first_in (failing_rule (is_among c) s) (map Kids c.kids)))
      (all_fine Item (failing_rule (is_among c) s) c.items (λ p h. fails_none s (is_among c) (Item p) (cert.right (Item p) h)))
      ∙ all_fine Kids (failing_rule (is_among c) s) c.kids (λ p h. fails_none s (is_among c) (Kids p) (cert.right (Kids p) h))

  pub wrong_or_not : (wrong_with s c roots ≡ None) ↔ IsCertificate s c
  wrong_or_not = (is_certificate (is_among c (Item roots)) refl, nothing_wrong)
