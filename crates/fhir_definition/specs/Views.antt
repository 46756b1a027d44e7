-- What contracts see of the places of children and slices, and of an index of ids.
use Rattle.std.specs.Prelude.{◌≡◌, ℕ, List, map, Vec}
use Rattle.std.specs.declared.alloc.Global.{Global}
use Rattle.fhir_json.specs.Tree.{Text}
use Rattle.fhir_names.specs.Places.{Places, place_of}
use Rattle.fhir_elements.specs.Element.{Element}
use Rattle.fhir_definition.specs.Snapshot.{id_place_from}

abbrev pub lists_in : List (Vec ℕ Global) → List (List ℕ)
lists_in vs = map (λ v. v.items) vs

-- an index finds the ids of elements whose places begin at a number
abbrev pub FindsIds : Places → ℕ → List Element → Type 0
FindsIds places n es = (id : Text) → place_of places id ≡ id_place_from n es id
