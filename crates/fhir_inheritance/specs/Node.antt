-- What is known of an element of a snapshot: its fields, and what stands under it.
use Rattle.std.specs.Prelude.{List, Bool}
use Rattle.fhir_json.specs.Tree.{Text}
use Rattle.fhir_elements.specs.Element.{Element}

pub record Node : Type 0 where
  pub element : Element
  -- the names of its children, in order
  pub names : List Text
  -- the ids of its slices, in order
  pub slices : List Text
  -- the differential has a child of it that the base doesn't have, or a slice of one
  pub touched : Bool
