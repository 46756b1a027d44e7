-- Items that conform to a node wherever it is that they stand.
use Rattle.std.specs.Prelude.{IsTrue}
use Rattle.fhir_nodes.specs.declared.node.NodeRef.{NodeRef}
use Rattle.fhir_schema.specs.Schemas.{SchemaValue}
use Rattle.fhir_instance.specs.Items.{Item}
use Rattle.fhir_conformance.specs.Conformance.{Interpretation, Around, conforms}

pub record Conforming (s : SchemaValue) (meaning : Interpretation) (x : Item) (n : NodeRef) : Type 0 where
  pub around : Around
  pub holds : IsTrue (conforms s meaning around x n)

-- to two nodes at one place
pub record ConformingBoth (s : SchemaValue) (meaning : Interpretation) (x : Item) (one other : NodeRef) : Type 0 where
  pub around : Around
  pub holds_one : IsTrue (conforms s meaning around x one)
  pub holds_other : IsTrue (conforms s meaning around x other)
