-- Elements of a definition, looked up by what their ids say (FHIR R4, ElementDefinition, id).
use Rattle.std.specs.Prelude.{◌≡◌, List, [], ◌∷◌, map, filter, Bool, false, Option, None, Some, is_some, if◌then◌else◌}
use Rattle.std.specs.Option.{option_map_or}
use Rattle.std.specs.Str.{bytes_eq}
use Rattle.fhir_json.specs.Tree.{Text}
use Rattle.fhir_names.specs.Parents.{front_of, name_of, slice_of, sliced_of}
use Rattle.fhir_names.specs.Places.{Places, Finds}
use Rattle.fhir_elements.specs.Element.{Element}
use Rattle.fhir_inheritance.specs.Named.{Groups, texts_under}

-- the first element of an id
abbrev pub find : List Element → Text → Option Element
find [] id = None
find (e ∷ es) id = if bytes_eq id e.id then Some e else find es id

abbrev pub is_this : Text → Option Text → Bool
is_this id other = option_map_or (bytes_eq id) other false

-- the id of which an id is that of a child, and no slice
abbrev pub parent_of : Text → Option Text
parent_of id = if is_some (slice_of id) then None else front_of id

-- the id under which an id is that of a slice
abbrev pub slice_parent_of : Text → Option Text
slice_parent_of id = if is_some (slice_of id) then front_of id else None

-- the names of the children of an id, in order
abbrev pub names_under : List Element → Text → List Text
names_under es id = map (λ e. name_of e.id) (filter (λ e. is_this id (parent_of e.id)) es)

-- the names of the slices under an id, without what names the slice, in order
abbrev pub sliced_names_under : List Element → Text → List Text
sliced_names_under es id = map (λ e. name_of e.id) (filter (λ e. is_this id (slice_parent_of e.id)) es)

-- the ids of the slices of an id, in order
abbrev pub slices_under : List Element → Text → List Text
slices_under es id = map (λ e. e.id) (filter (λ e. is_this id (sliced_of e.id)) es)

-- ---- as they are kept

-- the elements have these places, and these children and slices, and these names of slices
pub record IsKept (es : List Element) (places : Places) (children slices sliced : Groups) : Type 0 where
  pub ids : Finds places (map (λ e. e.id) es)
  pub children_are : (id : Text) → texts_under children id ≡ names_under es id
  pub slices_are : (id : Text) → texts_under slices id ≡ slices_under es id
  pub sliced_are : (id : Text) → texts_under sliced id ≡ sliced_names_under es id
