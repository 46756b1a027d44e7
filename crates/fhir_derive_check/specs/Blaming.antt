-- Which pair is to blame where two profiles have no certificate: the first that fails of those to which a way leads down from the pair of their roots.
use Rattle.std.specs.Prelude.{◌≡◌, ◌↔◌, List, Bool, false, not, Some, IsTrue, filter}
use Rattle.std.specs.List.{Contains}
use Rattle.std.specs.Option.{option_map_or}
use Rattle.fhir_json.specs.Tree.{Text}
use Rattle.fhir_nodes.specs.declared.node.NodeRef.{NodeRef}
use Rattle.fhir_schema.specs.Schemas.{SchemaValue, holder}
use Rattle.fhir_certificate.specs.declared.pair.NodePair.{NodePair}
use Rattle.fhir_certificate.specs.declared.pair.Pair.{Pair}
use Rattle.fhir_certificate.specs.declared.pair.Pair.TheVariants.{Item, Kids}
use Rattle.fhir_cert_check.specs.Rule.{RuleName}
use Rattle.fhir_cert_check.specs.Rules.{failing_rule}
use Rattle.fhir_cert_check.specs.Checking.{same_node, first_in}
use Rattle.fhir_cert_check.specs.Asked.{asked_for}
use Rattle.fhir_derive_check.specs.Finding.{is_in, IsDiscovery}
use Rattle.fhir_derive_check.specs.Reaching.{IsTenable, roots_between}

-- A pair of items may have that of children in two ways: by the derived node, or by the definitions of its types. Of a node that has children of its
-- own, the second way is spare.
abbrev pub is_spare : SchemaValue → (asker asked : Pair) → Bool
is_spare s (Item p) (Kids q) = option_map_or (λ own. not (same_node own q.derived)) (holder s p.derived) false
is_spare s (Item p) (Item q) = false
is_spare s (Kids p) q = false

-- The set has the first pair, and with each pair all that it asks for and that aren't tenable, but for spare ones.
pub record IsClosedDown (s : SchemaValue) (first : Pair) (set : Pair → Bool) : Type 0 where
  pub rooted : IsTrue (set first)
  pub closed : (p q : Pair) → IsTrue (set p) → Contains (asked_for s p) q → is_spare s p q ≡ false → (IsTenable s q → ⊥) → IsTrue (set q)

-- the pair is in each such set: from the first pair a way leads down to it, by pairs that aren't tenable, each asked for by the one before
abbrev pub IsOnTheWay : SchemaValue → Pair → Pair → Type 0
IsOnTheWay s first p = (set : Pair → Bool) → IsClosedDown s first set → IsTrue (set p)

-- The pair is the first on a way down, of those that were found, that fails a rule where all that were found count, and that is the rule.
pub record IsBlamed (s : SchemaValue) (first : Pair) (found : List Pair) (p : Pair) (rule : RuleName) : Type 0 where
  pub way : Pair → Bool
  pub exactly : (q : Pair) → IsTrue (way q) ↔ IsOnTheWay s first q
  pub fails : first_in (failing_rule (is_in found) s) (filter way found) ≡ Some (p, rule)

-- The pair is the one to blame of those that are found from the roots of two profiles.
pub record IsToBlame (s : SchemaValue) (derived base : Text) (p : Pair) (rule : RuleName) : Type 0 where
  pub roots : NodePair
  pub are_roots : roots_between s derived base ≡ Some roots
  pub found : List Pair
  pub discovery : IsDiscovery (asked_for s) (Item roots) found
  pub blamed : IsBlamed s (Item roots) found p rule

-- The item has children of its own, and not those of the node.
pub record HasOthers (s : SchemaValue) (item children : NodeRef) : Type 0 where
  pub own : NodeRef
  pub are_own : holder s item ≡ Some own
  pub others : same_node own children ≡ false
