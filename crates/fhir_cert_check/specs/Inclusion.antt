-- What a right certificate promises.
use Rattle.std.specs.Prelude.{◌≡◌, Some, IsTrue}
use Rattle.fhir_json.specs.Tree.{Text, Tree}
use Rattle.fhir_nodes.specs.declared.node.NodeRef.{NodeRef}
use Rattle.fhir_schema.specs.Schemas.{SchemaValue, root}
use Rattle.fhir_instance.specs.Items.{Item}
use Rattle.fhir_conformance.specs.Conformance.{Interpretation, Around, conforms, IsFairEverywhere, Conforms}

-- each item, wherever it stands and whatever unread rules mean that is fair, that conforms to the first node conforms to the
-- second
abbrev pub IncludesItems : SchemaValue → NodeRef → NodeRef → Type 0
IncludesItems s n m =
    (meaning : Interpretation) → IsFairEverywhere s meaning → (around : Around) (x : Item)
    → IsTrue (conforms s meaning around x n) → IsTrue (conforms s meaning around x m)

-- each resource that conforms to the derived profile conforms to the base, whatever unread rules mean that is fair
abbrev pub Includes : SchemaValue → Text → Text → Type 0
Includes s derived base =
    (meaning : Interpretation) → IsFairEverywhere s meaning → (t : Tree) → Conforms s meaning derived t → Conforms s meaning base t

-- the same of the roots of two profiles: each item that is typed, wherever it stands
abbrev pub IncludesTyped : SchemaValue → Text → Text → Type 0
IncludesTyped s derived base = (n m : NodeRef) → root s derived ≡ Some n → root s base ≡ Some m → IncludesItems s n m
