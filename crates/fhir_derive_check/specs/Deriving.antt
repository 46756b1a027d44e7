-- What is derived of two profiles: the certificate of the pairs that are reached, or why there is none.
use Rattle.std.specs.Prelude.{◌≡◌, ◌↔◌, List, [], ◌∷◌, Bool, true, not, ◌&&◌, filter, Some, IsTrue}
use Rattle.fhir_json.specs.Tree.{Text}
use Rattle.fhir_schema.specs.Schemas.{SchemaValue}
use Rattle.fhir_certificate.specs.declared.pair.NodePair.{NodePair}
use Rattle.fhir_certificate.specs.declared.pair.Pair.{Pair}
use Rattle.fhir_certificate.specs.declared.pair.Pair.TheVariants.{Item, Kids}
use Rattle.fhir_certificate.specs.Certificate.{CertificateValue}
use Rattle.fhir_cert_check.specs.Rule.{RuleName}
use Rattle.fhir_cert_check.specs.Rules.{failing_rule}
use Rattle.fhir_cert_check.specs.Checking.{first_in}
use Rattle.fhir_cert_check.specs.Asked.{asked_for}
use Rattle.fhir_derive_check.specs.Finding.{is_in, IsDiscovery}
use Rattle.fhir_derive_check.specs.Reaching.{IsReached, roots_between}

-- the pairs of items, and those of children
abbrev pub items_in : List Pair → List NodePair
items_in [] = []
items_in (Item p ∷ ps) = p ∷ items_in ps
items_in (Kids p ∷ ps) = items_in ps

abbrev pub kids_in : List Pair → List NodePair
kids_in [] = []
kids_in (Item p ∷ ps) = kids_in ps
kids_in (Kids p ∷ ps) = p ∷ kids_in ps

abbrev pub none_twice : List Pair → Bool
none_twice [] = true
none_twice (p ∷ ps) = not (is_in ps p) && none_twice ps

-- The certificate of two profiles has the pairs that are reached from their roots, each where it is found.
pub record IsDerived (s : SchemaValue) (derived base : Text) (c : CertificateValue) : Type 0 where
  pub roots : NodePair
  pub are_roots : roots_between s derived base ≡ Some roots
  pub found : List Pair
  pub discovery : IsDiscovery (asked_for s) (Item roots) found
  pub reached : Pair → Bool
  pub exactly : (p : Pair) → IsTrue (reached p) ↔ IsReached s (Item roots) p
  pub derived_is : c.derived ≡ derived
  pub base_is : c.base ≡ base
  pub items : c.items ≡ items_in (filter reached found)
  pub kids : c.kids ≡ kids_in (filter reached found)

-- The pair is the first of those that are found that fails a rule where all of them count, and that is the rule.
pub record IsFirstFailing (s : SchemaValue) (derived base : Text) (p : Pair) (rule : RuleName) : Type 0 where
  pub roots : NodePair
  pub are_roots : roots_between s derived base ≡ Some roots
  pub found : List Pair
  pub discovery : IsDiscovery (asked_for s) (Item roots) found
  pub first : first_in (failing_rule (is_in found) s) found ≡ Some (p, rule)
