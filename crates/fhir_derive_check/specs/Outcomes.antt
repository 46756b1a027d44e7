-- What is found out between two roots (used by private contracts alone).
use Rattle.std.specs.Prelude.{◌≡◌, ◌↔◌, List, Bool, Option, None, Some, IsTrue, filter}
use Rattle.std.specs.List.{Contains, filter_map}
use Rattle.fhir_json.specs.Tree.{Text}
use Rattle.fhir_schema.specs.Schemas.{SchemaValue}
use Rattle.fhir_certificate.specs.declared.pair.NodePair.{NodePair}
use Rattle.fhir_certificate.specs.declared.pair.Pair.{Pair}
use Rattle.fhir_certificate.specs.declared.pair.Pair.TheVariants.{Item, Kids}
use Rattle.fhir_certificate.specs.Certificate.{CertificateValue}
use Rattle.fhir_cert_check.specs.Rule.{RuleName}
use Rattle.fhir_cert_check.specs.Rules.{failing_rule, is_local}
use Rattle.fhir_cert_check.specs.Checking.{IsRight, first_in}
use Rattle.fhir_cert_check.specs.Asked.{asked_for}
use Rattle.fhir_cert_check.specs.Views.{rule_name}
use Rattle.fhir_derive_check.specs.Finding.{is_in, IsDiscovery}
use Rattle.fhir_derive_check.specs.Reaching.{IsTenable, IsReached, roots_between}
use Rattle.fhir_derive_check.specs.Deriving.{items_in, kids_in}
use Rattle.fhir_derive_check.specs.Blaming.{IsBlamed}
use Rattle.fhir_derive_check.specs.declared.blaming.Named.{Named}
use Rattle.fhir_derive_check.specs.declared.blaming.Named.TheVariants.{First, ToBlame}
use Rattle.fhir_derive_check.specs.declared.outcome.Outcome.{Outcome}
use Rattle.fhir_derive_check.specs.declared.outcome.Outcome.TheVariants.{Derives, NoCertificate}

-- the law of larger sets
abbrev pub MorePairs : Type 0
MorePairs =
    (s : SchemaValue) (some more : Pair → Bool) (p : Pair) → ((q : Pair) → Contains (asked_for s p) q → IsTrue (some q) → IsTrue (more q))
    → IsTrue (is_local some s p) → IsTrue (is_local more s p)

-- the pairs of the list that are tenable count, and each that counts is right
pub record IsSettled (s : SchemaValue) (found : List Pair) (live : Pair → Bool) : Type 0 where
  pub within : (p : Pair) → IsTrue (live p) → IsTrue (is_in found p)
  pub keeps : (p : Pair) → IsTrue (is_in found p) → IsTenable s p → IsTrue (live p)
  pub right : IsRight s live

-- the set has the first pair, and with each pair all that count of those that it asks for
pub record IsClosedAmong (s : SchemaValue) (live : Pair → Bool) (first : Pair) (set : Pair → Bool) : Type 0 where
  pub rooted : IsTrue (set first)
  pub closed : (p q : Pair) → IsTrue (set p) → Contains (asked_for s p) q → IsTrue (live q) → IsTrue (set q)

-- it is the least such set
pub record IsMet (s : SchemaValue) (live : Pair → Bool) (first : Pair) (met : Pair → Bool) : Type 0 where
  pub closed : IsClosedAmong s live first met
  pub least : (p : Pair) → IsTrue (met p) → (set : Pair → Bool) → IsClosedAmong s live first set → IsTrue (set p)

abbrev pub item_of : Pair → Option NodePair
item_of (Item nodes) = Some nodes
item_of (Kids nodes) = None

abbrev pub kids_of : Pair → Option NodePair
kids_of (Item nodes) = None
kids_of (Kids nodes) = Some nodes

-- the certificate has the pairs of the list
pub record IsListed (derived base : Text) (pairs : List Pair) (c : CertificateValue) : Type 0 where
  pub derived_is : c.derived ≡ derived
  pub base_is : c.base ≡ base
  pub items : c.items ≡ filter_map item_of pairs
  pub kids : c.kids ≡ filter_map kids_of pairs

-- a certificate between two roots, with what it was found by
pub record IsDerivation (s : SchemaValue) (derived base : Text) (roots : NodePair) (c : CertificateValue) : Type 0 where
  pub found : List Pair
  pub discovery : IsDiscovery (asked_for s) (Item roots) found
  pub reached : Pair → Bool
  pub exactly : (p : Pair) → IsTrue (reached p) ↔ IsReached s (Item roots) p
  pub derived_is : c.derived ≡ derived
  pub base_is : c.base ≡ base
  pub items : c.items ≡ items_in (filter reached found)
  pub kids : c.kids ≡ kids_in (filter reached found)
  pub rooted : IsTrue (is_in (filter reached found) (Item roots))
  pub right : IsRight s (is_in (filter reached found))

-- the first pair that fails
abbrev pub IsFirstWrong : SchemaValue → List Pair → Pair → RuleName → Type 0
IsFirstWrong s found p rule = first_in (failing_rule (is_in found) s) found ≡ Some (p, rule)

abbrev pub IsNamed : Named → SchemaValue → Pair → List Pair → Pair → RuleName → Type 0
IsNamed First s root found p rule = IsFirstWrong s found p rule
IsNamed ToBlame s root found p rule = IsBlamed s root found p rule

-- the pair that is named, where the pair of the roots is in no right set
pub record IsRefusal (named : Named) (s : SchemaValue) (roots : NodePair) (p : Pair) (rule : RuleName) : Type 0 where
  pub found : List Pair
  pub discovery : IsDiscovery (asked_for s) (Item roots) found
  pub is_named : IsNamed named s (Item roots) found p rule
  pub none : IsTenable s (Item roots) → ⊥

abbrev pub IsOutcome : Named → SchemaValue → Text → Text → NodePair → Outcome → Type 0
IsOutcome named s derived base roots (Derives c) = IsDerivation s derived base roots c
IsOutcome named s derived base roots (NoCertificate p rule) = IsRefusal named s roots p (rule_name rule)

-- what is found out between the roots of two profiles
pub record IsOutcomeBetween (named : Named) (s : SchemaValue) (derived base : Text) (o : Outcome) : Type 0 where
  pub roots : NodePair
  pub are_roots : roots_between s derived base ≡ Some roots
  pub outcome : IsOutcome named s derived base roots o
