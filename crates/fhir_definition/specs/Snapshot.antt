-- The tree that the ids of a snapshot's elements make (FHIR R4, ElementDefinition, id), by the places of the elements.
use Rattle.std.specs.Prelude.{ℕ, suc, List, [], ◌∷◌, Bool, true, false, ◌&&◌, ◌==◌, nat_eq, Option, None, Some, is_some, is_none, if◌then◌else◌}
use Rattle.std.specs.Option.{option_map_or, option_and_then}
use Rattle.std.specs.List.{list_all, count_by, position}
use Rattle.std.specs.Str.{bytes_eq}
use Rattle.fhir_json.specs.Tree.{Text}
use Rattle.fhir_names.specs.Parents.{front_of, slice_of, sliced_of}
use Rattle.fhir_elements.specs.Element.{Element}

-- the place of the first element with an id, where the elements' places begin at a number
abbrev pub id_place_from : ℕ → List Element → Text → Option ℕ
id_place_from n [] id = None
id_place_from n (e ∷ es) id = if bytes_eq id e.id then Some n else id_place_from (suc n) es id

abbrev pub id_place : List Element → Text → Option ℕ
id_place es id = id_place_from 0 es id

abbrev pub is_at : ℕ → Option ℕ → Bool
is_at p o = option_map_or (nat_eq p) o false

-- each is the first with its id, so that no id is repeated
abbrev pub are_first : List Element → ℕ → List Element → Bool
are_first all n [] = true
are_first all n (e ∷ es) = is_at n (id_place all e.id) && are_first all (suc n) es

abbrev pub ids_differ : List Element → Bool
ids_differ es = are_first es 0 es

-- the id under which an element stands: that of the element that it is a slice of, or that in front of its last name
abbrev pub up_of : Text → Option Text
up_of id = if is_some (slice_of id) then sliced_of id else front_of id

abbrev pub is_root : Element → Bool
is_root e = is_none (up_of e.id)

abbrev pub has_parent : List Element → Element → Bool
has_parent es e = option_map_or (λ up. is_some (id_place es up)) (up_of e.id) true

-- each parent is there, and there is one root
abbrev pub is_tree : List Element → Bool
is_tree es = list_all (has_parent es) es && (count_by is_root es == 1)

-- the place of the root
abbrev pub root_place : List Element → Option ℕ
root_place es = position is_root es

-- ---- under which element one stands

-- the place of the element whose child an element is, and that of the element whose slice it is
abbrev pub child_place : List Element → Element → Option ℕ
child_place es e = if is_some (slice_of e.id) then None else option_and_then (id_place es) (front_of e.id)

abbrev pub slice_place : List Element → Element → Option ℕ
slice_place es e = option_and_then (id_place es) (sliced_of e.id)
