-- What the snapshot has of an element where a differential says something of it, and where it says nothing (FHIR R4, Profiling,
-- snapshots; ElementDefinition).
use Rattle.std.specs.Prelude.{◌≡◌, [], Option, Some, None}
use Rattle.std.specs.List.{Contains}
use Rattle.fhir_elements.specs.Constraint.{Constraint}
use Rattle.fhir_elements.specs.Slicing.{Slicing}
use Rattle.fhir_elements.specs.Element.{Element}

-- what the first has, the second has too
abbrev pub Wins : {A : Type 0} → Option A → Option A → Type 0
Wins {A} said made = (x : A) → said ≡ Some x → made ≡ Some x

-- where the first has nothing, the third is the second
abbrev pub Stays : {A : Type 0} → Option A → Option A → Option A → Type 0
Stays said below made = said ≡ None → made ≡ below

-- Each field that the first element has, but its id, the second one has: types in the place of others, and constraints among others.
pub record Holds (d e : Element) : Type 0 where
  pub path : Wins d.path e.path
  pub slice_name : Wins d.slice_name e.slice_name
  pub min : Wins d.min e.min
  pub max : Wins d.max e.max
  pub types : ¬ (d.types ≡ []) → e.types ≡ d.types
  pub content_reference : Wins d.content_reference e.content_reference
  pub fixed : Wins d.fixed e.fixed
  pub pattern : Wins d.pattern e.pattern
  pub min_value : Wins d.min_value e.min_value
  pub max_value : Wins d.max_value e.max_value
  pub max_length : Wins d.max_length e.max_length
  pub binding : Wins d.binding e.binding
  pub constraints : (c : Constraint) → Contains d.constraints c → Contains e.constraints c
  pub slicing : Wins d.slicing e.slicing

-- Each field that the first element doesn't have, the third has as the second one does, but for a slicing that neither has.
pub record Inherits (d m e : Element) : Type 0 where
  pub path : Stays d.path m.path e.path
  pub slice_name : Stays d.slice_name m.slice_name e.slice_name
  pub min : Stays d.min m.min e.min
  pub max : Stays d.max m.max e.max
  pub types : d.types ≡ [] → e.types ≡ m.types
  pub content_reference : Stays d.content_reference m.content_reference e.content_reference
  pub fixed : Stays d.fixed m.fixed e.fixed
  pub pattern : Stays d.pattern m.pattern e.pattern
  pub min_value : Stays d.min_value m.min_value e.min_value
  pub max_value : Stays d.max_value m.max_value e.max_value
  pub max_length : Stays d.max_length m.max_length e.max_length
  pub binding : Stays d.binding m.binding e.binding
  pub slicing : (g : Slicing) → d.slicing ≡ None → m.slicing ≡ Some g → e.slicing ≡ Some g
