-- Pairs of a node and an item, and what is right of their judgements (used by private contracts alone).
use Rattle.std.specs.Prelude.{◌≡◌, ℕ, Bool, false, Some, IsTrue}
use Rattle.std.specs.BTreeMap.{BTreeMap, get}
use Rattle.fhir_nodes.specs.declared.node.NodeRef.{NodeRef}
use Rattle.fhir_schema.specs.Schemas.{SchemaValue, is_root_node}
use Rattle.fhir_facets.specs.Unread.{Meaning, Reading, meaning_of}
use Rattle.fhir_conformance.specs.Asks.{Ask, own, types, profile, root, child}
use Rattle.fhir_conformance.specs.Conformance.{Around, resource_at, as_read, ask_conforms, conforms}
use Rattle.fhir_validator.specs.declared.judgement.Judgement.{Judgement}
use Rattle.fhir_validator.specs.declared.pair.ItemPair.{ItemPair}
use Rattle.fhir_validator.specs.contracts.pair.ItemPairOrd.TheImpl.{cmp-value}
use Rattle.fhir_validator.specs.Judgements.{under}
use Rattle.fhir_validator.specs.Layouts.{LayoutValue, item_at, resource_of}

-- the item of a number stands there, as far as the nearest resource tells
abbrev pub IsThere : LayoutValue → ℕ → Around → Type 0
IsThere layout number around = resource_at layout.schema around (item_at layout number) ≡ resource_of layout number

-- a judgement on what a pair asks
abbrev pub IsRightOf : LayoutValue → ItemPair → Ask → Judgement → Type 0
IsRightOf layout p ask a =
    (r : Reading) (around : Around) → IsThere layout p.item around
    → under r a ≡ ask_conforms layout.schema (as_read layout.given r) around (item_at layout p.item) ask

-- a judgement on a test by what unread rules mean, and by the roots that the item of a number conforms to
abbrev pub IsRightOn : LayoutValue → ℕ → (Meaning → (NodeRef → Bool) → Bool) → Judgement → Type 0
IsRightOn layout number test a =
    (r : Reading) (around : Around) → IsThere layout number around
    → under r a ≡ test (meaning_of layout.given r) (conforms layout.schema (as_read layout.given r) around (item_at layout number))

-- a judgement on a pair
abbrev pub IsRight : LayoutValue → ItemPair → Judgement → Type 0
IsRight layout p a =
    (r : Reading) (around : Around) → IsThere layout p.item around
    → under r a ≡ conforms layout.schema (as_read layout.given r) around (item_at layout p.item) p.node

-- each judgement that is known is right
abbrev pub AreRight : LayoutValue → BTreeMap ItemPair Judgement → Type 0
AreRight layout judgements = (p : ItemPair) (a : Judgement) → get cmp-value.it judgements p ≡ Some a → IsRight layout p a

-- where a node asks for a root, or names it as a profile, that is one, and the node is none; nor is one that asks for types,
-- which are its own
abbrev pub IsOrdered : SchemaValue → NodeRef → Ask → Type 0
IsOrdered s n (own rule m) = Unit {0}
IsOrdered s n (types m) = (is_root_node s n ≡ false) × (m ≡ n)
IsOrdered s n (profile r) = (is_root_node s n ≡ false) × IsTrue (is_root_node s r)
IsOrdered s n (root r) = (is_root_node s n ≡ false) × IsTrue (is_root_node s r)
IsOrdered s n (child i m) = Unit {0}
