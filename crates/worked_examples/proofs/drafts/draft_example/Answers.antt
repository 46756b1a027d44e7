use Rattle.std.proofs.Common.{◌≡◌, [], ◌∷◌, Some, true, false, refl}
use Rattle.std.specs.Prelude.{codes}
use Rattle.fhir_asking.specs.Asking.{Has}
use Rattle.fhir_json.specs.Tree.{Text}
use Rattle.fhir_elements.specs.Element.{Element}
use Rattle.fhir_inheritance.specs.Node.{Node}
use Rattle.fhir_inheritance.specs.Sources.{elements_in}
use Rattle.fhir_snapshot.specs.Order.{IsAt, IsLaid}
use Rattle.fhir_snapshot.specs.Snapshots.{SnapshotIn}
use Rattle.worked_examples.specs.Drafts.{drafts, draft, type_tree, root_element, b_element, slice_element, c_element, draft_elements}
use Rattle.worked_examples.proofs.drafts.draft_example.Goals as goal

abbrev root_node : Node
root_node = record { element = root_element; names = codes "b" ∷ codes "c" ∷ []; slices = []; touched = false }

abbrev b_node : Node
b_node = record { element = b_element; names = []; slices = codes "A.b:s" ∷ []; touched = false }

abbrev slice_node : Node
slice_node = record { element = slice_element; names = []; slices = []; touched = false }

abbrev c_node : Node
c_node = record { element = c_element; names = []; slices = []; touched = false }

abbrev url : Text
url = codes "urn:P"

root_at : IsAt drafts url (codes "A") root_node
root_at = (3, refl)

b_at : IsAt drafts url (codes "A.b") b_node
b_at = (3, refl)

slice_at : IsAt drafts url (codes "A.b:s") slice_node
slice_at = (3, refl)

c_at : IsAt drafts url (codes "A.c") c_node
c_at = (3, refl)

is_laid : IsLaid drafts url (elements_in (codes "snapshot") type_tree) (elements_in (codes "differential") draft) draft_elements
is_laid = (
  (((root_node, root_at), tt), (((b_node, b_at), (root_node, root_at)), (((c_node, c_at), (root_node, root_at)), tt))),
  (((b_node, b_at), (root_node, root_at)), (((slice_node, slice_at), (b_node, b_at)), tt)),
  (root_node, root_at, refl, refl, (b_node, b_at, refl, refl, (slice_node, slice_at, refl, refl, (c_node, c_at, refl, refl, tt)))),
)

base_in : SnapshotIn 1 drafts (codes "urn:A") (elements_in (codes "snapshot") type_tree)
base_in = (type_tree, refl, refl, refl)

pub returns : goal.returns
returns c = (2, (draft, refl, refl, (codes "urn:A", refl, (elements_in (codes "snapshot") type_tree, base_in, is_laid))))
