-- How slices are told apart where nothing says it, and what a slice has of the element that it is a slice of (FHIR R4, Profiling,
-- slicing; ElementDefinition, slicing).
use Rattle.std.specs.Prelude.{◌≡◌, ◌++◌, ◌⊎◌, ◌==◌, List, [], ◌∷◌, true, false, None, Some, codes}
use Rattle.std.specs.List.{ends_with}
use Rattle.fhir_json.specs.Tree.{Text}
use Rattle.fhir_json.specs.Bytes.{line_feed}
use Rattle.fhir_names.specs.Texts.{lacks}
use Rattle.fhir_names.specs.Parents.{name_of, sliced_of}
use Rattle.fhir_elements.specs.declared.slicing.DiscriminatorType.TheVariants as types
use Rattle.fhir_elements.specs.declared.slicing.SlicingRules.TheVariants as rules
use Rattle.fhir_elements.specs.Constraint.{Constraint}
use Rattle.fhir_elements.specs.Slicing.{Slicing}
use Rattle.fhir_elements.specs.Element.{Element}
use Rattle.fhir_package.specs.Definitions.{Definitions}
use Rattle.fhir_inheritance.specs.Node.{Node}
use Rattle.fhir_inheritance.specs.Elements.{find}
use Rattle.fhir_inheritance.specs.Sources.{Source, source_at}
use Rattle.fhir_snapshot.specs.Order.{IsAt}
use Rattle.snapshot_laws.specs.Differentials.{Stays}

-- ---- slicings that nobody says

-- open slices that are told apart by the values of their urls, as those of extensions are
abbrev pub by_url : Slicing
by_url = record { discriminators = record { by = Some types.Value; path = Some (codes "url") } ∷ []; ordered = None; rules = Some rules.Open }

-- open slices that are told apart by their types, as those of choices are
abbrev pub by_type : Slicing
by_type = record { discriminators = record { by = Some types.TypeCode; path = Some (codes "$this") } ∷ []; ordered = None; rules = Some rules.Open }

-- the base has the element, and no slicing of it
abbrev pub HasUnsliced : Definitions → Text → Text → Type 0
HasUnsliced p base id = (m : Node) × IsAt p base id m × (m.element.slicing ≡ None)

-- the id is that of a slice, and the base doesn't have it
abbrev pub IsNewSlice : Definitions → Text → Text → Type 0
IsNewSlice p base id = (whole : Text) × (sliced_of id ≡ Some whole) × ((m : Node) → IsAt p base id m → ⊥)

-- An element of a profile that is written by differential, of which the differential says no slicing: the base has it, and says none
-- either, or it is a new slice.
pub record IsUnsaid (p : Definitions) (url id : Text) (n : Node) : Type 0 where
  pub source : Source
  pub base : Text
  pub plain : lacks line_feed id ≡ true
  pub at : source_at p url ≡ Some source
  pub unwritten : source.written ≡ false
  pub rests : source.base ≡ Some base
  pub unsaid : (d : Element) → find source.elements id ≡ Some d → d.slicing ≡ None
  pub below : HasUnsliced p base id ⊎ IsNewSlice p base id
  pub stands : IsAt p url id n

-- How an element is sliced where nothing says it, by its name: an extension by the values of its slices' urls and a choice by their types, if
-- it has slices; and any other, or one without slices, isn't.
pub record IsSlicedByName (id : Text) (n : Node) : Type 0 where
  pub extensions : name_of id ≡ codes "extension" → ¬ (n.slices ≡ []) → n.element.slicing ≡ Some by_url
  pub modifiers : name_of id ≡ codes "modifierExtension" → ¬ (n.slices ≡ []) → n.element.slicing ≡ Some by_url
  pub choices : ends_with (λ a b. a == b) (name_of id) (codes "[x]") ≡ true → ¬ (n.slices ≡ []) → n.element.slicing ≡ Some by_type
  pub others : ¬ (name_of id ≡ codes "extension") → ¬ (name_of id ≡ codes "modifierExtension")
      → ends_with (λ a b. a == b) (name_of id) (codes "[x]") ≡ false → n.element.slicing ≡ None
  pub unsliced : n.slices ≡ [] → n.element.slicing ≡ None

-- ---- new slices

-- A slice that is new: its id is that of a slice, its base doesn't have it, and the differential says this of it.
pub record IsNew (p : Definitions) (url id whole : Text) (d : Element) (n : Node) : Type 0 where
  pub source : Source
  pub base : Text
  pub plain : lacks line_feed id ≡ true
  pub at : source_at p url ≡ Some source
  pub unwritten : source.written ≡ false
  pub rests : source.base ≡ Some base
  pub none_below : (m : Node) → IsAt p base id m → ⊥
  pub sliced : sliced_of id ≡ Some whole
  pub said : find source.elements id ≡ Some d
  pub stands : IsAt p url id n

-- Each field that the first element doesn't have, the third has as the second one does, and constraints may come behind the second's.
pub record IsLike (d w e : Element) : Type 0 where
  pub slice_name : Stays d.slice_name w.slice_name e.slice_name
  pub max : Stays d.max w.max e.max
  pub types : d.types ≡ [] → e.types ≡ w.types
  pub content_reference : Stays d.content_reference w.content_reference e.content_reference
  pub fixed : Stays d.fixed w.fixed e.fixed
  pub pattern : Stays d.pattern w.pattern e.pattern
  pub min_value : Stays d.min_value w.min_value e.min_value
  pub max_value : Stays d.max_value w.max_value e.max_value
  pub max_length : Stays d.max_length w.max_length e.max_length
  pub binding : Stays d.binding w.binding e.binding
  pub constraints : (added : List Constraint) × (e.constraints ≡ w.constraints ++ added)
