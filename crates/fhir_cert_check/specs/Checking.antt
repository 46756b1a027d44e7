-- Which certificates are right, and what is wrong with another: the first pair that fails a rule, with that rule.
use Rattle.std.specs.Prelude.{◌≡◌, List, [], ◌∷◌, ◌++◌, map, Bool, ◌&&◌, nat_eq, Option, None, Some, IsTrue, if◌then◌else◌, Result, Ok, Err}
use Rattle.std.specs.Option.{option_map_or, option_map, option_and_then}
use Rattle.std.specs.List.{list_any}
use Rattle.fhir_nodes.specs.declared.node.NodeRef.{NodeRef}
use Rattle.fhir_schema.specs.Schemas.{SchemaValue, root}
use Rattle.fhir_certificate.specs.declared.pair.NodePair.{NodePair}
use Rattle.fhir_certificate.specs.declared.pair.Pair.{Pair}
use Rattle.fhir_certificate.specs.declared.pair.Pair.TheVariants.{Item, Kids}
use Rattle.fhir_json.specs.Tree.{Text}
use Rattle.fhir_certificate.specs.declared.fault.CertFault.{CertFault}
use Rattle.fhir_certificate.specs.declared.fault.CertFault.TheVariants.{UnknownNode}
use Rattle.fhir_certificate.specs.Certificate.{CertificateValue}
use Rattle.fhir_certificate.specs.Judging.{Stands}
use Rattle.fhir_cert_check.specs.Rules.{failing_rule, is_local}
use Rattle.fhir_cert_check.specs.Rule.{RuleName}
use Rattle.fhir_cert_check.specs.Rule.{root as no_roots}

abbrev pub same_node : NodeRef → NodeRef → Bool
same_node n m = nat_eq n.definition m.definition && nat_eq n.element m.element

abbrev pub same_nodes : NodePair → NodePair → Bool
same_nodes p q = same_node p.derived q.derived && same_node p.base q.base

-- the pair is one of the certificate's
abbrev pub is_among : CertificateValue → Pair → Bool
is_among c (Item p) = list_any (same_nodes p) c.items
is_among c (Kids p) = list_any (same_nodes p) c.kids

-- the pair of the two roots
abbrev pub roots_of : SchemaValue → CertificateValue → Option NodePair
roots_of s c = option_and_then (λ n. option_map (λ m. record { derived = n; base = m }) (root s c.base)) (root s c.derived)

-- each pair of the set is right by the set
abbrev pub IsRight : SchemaValue → (Pair → Bool) → Type 0
IsRight s pairs = (p : Pair) → IsTrue (pairs p) → IsTrue (is_local pairs s p)

-- The certificate has the pair of the roots, and each of its pairs is right by the others.
pub record IsCertificate (s : SchemaValue) (c : CertificateValue) : Type 0 where
  pub roots : NodePair
  pub are_roots : roots_of s c ≡ Some roots
  pub rooted : IsTrue (is_among c (Item roots))
  pub right : IsRight s (is_among c)

-- ---- the first that is wrong

-- the pairs in their order: those of items, then those of children
abbrev pub pairs_of : CertificateValue → List Pair
pairs_of c = map Item c.items ++ map Kids c.kids

-- the first pair that fails a rule, with that rule
abbrev pub first_in : (Pair → Option RuleName) → List Pair → Option (Pair × RuleName)
first_in failing_rule [] = None
first_in failing_rule (p ∷ ps) = option_map_or (λ rule. Some (p, rule)) (failing_rule p) (first_in failing_rule ps)

-- where the pairs that count are those that pass the test
abbrev pub first_wrong : SchemaValue → (Pair → Bool) → NodePair → List Pair → Option (Pair × RuleName)
first_wrong s pairs roots order =
    if pairs (Item roots) then first_in (failing_rule pairs s) order else Some (Item roots, no_roots)

-- what is wrong with the certificate first, if anything: that it lacks the pair of the roots, or a pair of its own
abbrev pub wrong_with : SchemaValue → CertificateValue → NodePair → Option (Pair × RuleName)
wrong_with s c roots = first_wrong s (is_among c) roots (pairs_of c)

-- the same of a certificate whose roots are still to be found; it has none where a definition can't be used
abbrev pub wrong_at : SchemaValue → CertificateValue → Result (Option (Pair × RuleName)) CertFault
wrong_at s c = option_map_or (λ roots. Ok (wrong_with s c roots)) (roots_of s c) (Err UnknownNode)

-- what is wrong with the certificate that was read, if anything, or why none was
abbrev pub answer_of : Result CertificateValue CertFault → SchemaValue → Result (Option (Pair × RuleName)) CertFault
answer_of (Ok c) s = wrong_at s c
answer_of (Err fault) s = Err fault

-- the bytes spell a right certificate
abbrev pub SpellsCertificate : SchemaValue → Text → Type 0
SpellsCertificate s bytes = (c : CertificateValue) × Stands s bytes c × IsCertificate s c
