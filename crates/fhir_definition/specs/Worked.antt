-- What a snapshot keeps beside its elements (used by private contracts alone).
use Rattle.std.specs.Prelude.{◌≡◌, length}
use Rattle.fhir_elements.specs.declared.reason.Reason.TheVariants.{NoTree}
use Rattle.fhir_elements.specs.Causes.{blamed_reason, reason_unless, is_blame_among}
use Rattle.fhir_definition.specs.declared.snapshot.Snapshot.TheInside.{Inside}
use Rattle.fhir_definition.specs.Snapshot.{is_tree, root_place}
use Rattle.fhir_definition.specs.Children.{children_of, slices_of}
use Rattle.fhir_definition.specs.Views.{lists_in}

-- it is what the elements say
pub record IsWorkedOut (s : Inside) : Type 0 where
  pub children : lists_in s.children.items ≡ children_of s.elements
  pub slices : lists_in s.slices.items ≡ slices_of s.elements
  pub root : s.root ≡ root_place s.elements
  pub tree_reason : blamed_reason s.tree_blame ≡ reason_unless (is_tree s.elements) NoTree
  pub tree_element : is_blame_among (length s.elements) s.tree_blame
