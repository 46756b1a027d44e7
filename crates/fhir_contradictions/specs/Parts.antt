-- The items of which an item is made.
use Rattle.std.specs.List.{Contains}
use Rattle.fhir_json.specs.Tree.{Text}
use Rattle.fhir_instance.specs.Items.{Item, kids_of}
use Rattle.fhir_contradictions.specs.Typing.{children_of}

-- the item itself, or a child of one of its parts
pub data IsPartOf (x : Item) : Item → Type 0 where
  itself : IsPartOf x x
  child : {y z : Item} (name : Text) → IsPartOf x z → Contains (children_of (kids_of z)) (name, y) → IsPartOf x y
