-- What a child has that the base doesn't have (FHIR R4, Profiling, snapshots).
use Rattle.std.specs.Prelude.{◌≡◌, List, true, false, None, Some}
use Rattle.fhir_json.specs.Tree.{Text}
use Rattle.fhir_json.specs.Bytes.{line_feed}
use Rattle.fhir_names.specs.Texts.{lacks}
use Rattle.fhir_names.specs.Parents.{front_of, sliced_of}
use Rattle.fhir_elements.specs.Element.{Element}
use Rattle.fhir_package.specs.Definitions.{Definitions}
use Rattle.fhir_inheritance.specs.Node.{Node}
use Rattle.fhir_inheritance.specs.Elements.{find}
use Rattle.fhir_inheritance.specs.Sources.{Source, source_at}
use Rattle.fhir_snapshot.specs.Order.{IsAt}
use Rattle.snapshot_laws.specs.Differentials.{Stays}
use Rattle.snapshot_laws.specs.Slicings.{IsLike, IsSlicedByName}

-- The second of two elements has what the elements of a differential say of its id, and of all else what the first has, but for its id
-- and its path. Where neither says how it is sliced, that goes by its name.
pub record IsInherited (es : List Element) (id : Text) (r n : Node) : Type 0 where
  pub like : (d : Element) → find es id ≡ Some d → IsLike d r.element n.element
  pub min : (d : Element) → find es id ≡ Some d → Stays d.min r.element.min n.element.min
  pub untouched : find es id ≡ None → n.element ≡ record (r.element) { id = id; path = n.element.path; slicing = n.element.slicing }
  pub sliced : ((d : Element) → find es id ≡ Some d → d.slicing ≡ None) → r.element.slicing ≡ None → IsSlicedByName id n

-- A child of an element, in a profile that is written by differential, that its base doesn't have.
pub record IsNewChild (p : Definitions) (url id : Text) (parent n : Node) : Type 0 where
  pub source : Source
  pub base : Text
  pub up : Text
  pub plain : lacks line_feed id ≡ true
  pub at : source_at p url ≡ Some source
  pub unwritten : source.written ≡ false
  pub rests : source.base ≡ Some base
  pub none_below : (m : Node) → IsAt p base id m → ⊥
  pub no_slice : sliced_of id ≡ None
  pub under : front_of id ≡ Some up
  pub parent_stands : IsAt p url up parent
  pub stands : IsAt p url id n
