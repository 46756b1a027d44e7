-- Which elements a snapshot has (FHIR R4, Profiling, snapshots; ElementDefinition, id).
use Rattle.std.specs.Prelude.{◌≡◌, ◌⊎◌, List, [], ◌∷◌, map, true, false, Some, codes}
use Rattle.fhir_json.specs.Tree.{Text, Tree}
use Rattle.fhir_json.specs.Bytes.{line_feed}
use Rattle.fhir_names.specs.Texts.{lacks}
use Rattle.fhir_names.specs.Parents.{front_of, name_of}
use Rattle.fhir_elements.specs.Element.{Element}
use Rattle.fhir_package.specs.declared.kind.Kind.TheVariants.{StructureDefinition}
use Rattle.fhir_package.specs.Definitions.{Definitions, at_url}
use Rattle.fhir_definition.specs.Snapshot.{ids_differ, is_tree}
use Rattle.fhir_inheritance.specs.Lists.{is_among}
use Rattle.fhir_inheritance.specs.Node.{Node}
use Rattle.fhir_inheritance.specs.Sources.{Source, source_at, brings_snapshot, elements_in}
use Rattle.fhir_snapshot.specs.Chains.{IsChain}
use Rattle.fhir_snapshot.specs.Order.{IsAt}
use Rattle.fhir_snapshot.specs.Snapshots.{brings_elements}

-- one of the elements has that id
abbrev pub Stands : Text → List Element → Type 0
Stands id es = is_among (map (λ e. e.id) es) id ≡ true

-- a definition brings a snapshot of elements with different ids, each of which stands under one that is there
pub record IsWhole (t : Tree) : Type 0 where
  pub elements : brings_elements (codes "snapshot") t ≡ true
  pub differ : ids_differ (elements_in (codes "snapshot") t) ≡ true
  pub tree : is_tree (elements_in (codes "snapshot") t) ≡ true

-- each snapshot that is brought is whole
abbrev pub AreWhole : Definitions → Type 0
AreWhole p = (url : Text) (t : Tree) → at_url StructureDefinition url p ≡ Some t → brings_snapshot t ≡ true → IsWhole t

-- the url of each definition has no line feed, as no uri has (FHIR R4, Data Types, uri)
abbrev pub UrlsArePlain : Definitions → Type 0
UrlsArePlain p = (url : Text) (t : Tree) → at_url StructureDefinition url p ≡ Some t → lacks line_feed url ≡ true

-- the last of texts of which this is the first
abbrev pub last_of : Text → List Text → Text
last_of first [] = first
last_of first (next ∷ others) = last_of next others

-- the snapshot at which a definition's chain of bases ends is whole
abbrev pub EndsWhole : Definitions → Text → Type 0
EndsWhole p url = (bases : List Text) (t : Tree) → IsChain p (url ∷ bases) → at_url StructureDefinition (last_of url bases) p ≡ Some t
    → brings_snapshot t ≡ true → IsWhole t

-- the snapshots on which a definition's rests are whole: all that are brought; or that at the end of its chain, where no url has a line feed
abbrev pub RestsWhole : Definitions → Text → Type 0
RestsWhole p url = AreWhole p ⊎ (UrlsArePlain p × EndsWhole p url)

-- The differential of a definition has a child of an id, or a slice of one, whose name no child of that id has in the base.
pub record BringsChild (p : Definitions) (url up : Text) : Type 0 where
  pub source : Source
  pub base : Text
  pub at : source_at p url ≡ Some source
  pub unwritten : source.written ≡ false
  pub rests : source.base ≡ Some base
  pub id : Text
  pub stands : Stands id source.elements
  pub under : front_of id ≡ Some up
  pub new : (m : Node) → IsAt p base up m → is_among m.names (name_of id) ≡ false
