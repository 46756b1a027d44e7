-- The items of a resource in a row, each with the nearest resource at or around it (used by private contracts alone).
use Rattle.std.specs.Prelude.{◌≡◌, ◌<◌, ◌≤◌, ◌+◌, ℕ, List, [], ◌∷◌, length, map, get_or, nat_lt, if◌then◌else◌, Option, None}
use Rattle.std.specs.Option.{option_map}
use Rattle.std.specs.List.{slice_get, AllByRecursion}
use Rattle.fhir_json.specs.Tree.{Text}
use Rattle.fhir_schema.specs.Schemas.{SchemaValue}
use Rattle.fhir_instance.specs.Items.{Item, item, Kids, no_kids, kid, kids_of}
use Rattle.fhir_instance.specs.View.{item_of}
use Rattle.fhir_conformance.specs.Conformance.{nearest_to}
use Rattle.fhir_conformance.specs.Views.{IsIndexOf}
use Rattle.fhir_validator.specs.declared.layout.Stand.{Stand}

-- an item, and the nearest resource at or around it
pub record Spot : Type 0 where
  pub itself : Item
  pub resource : Item

abbrev pub spot_in : Stand → Spot
spot_in stand = record { itself = item_of stand.item.now; resource = item_of stand.resource.now }

-- an item around which that is the nearest resource, and those of children
abbrev pub spot_of : SchemaValue → Item → Item → Spot
spot_of s around x = record { itself = x; resource = nearest_to s around x }

abbrev pub spots_in : SchemaValue → Item → Kids → List Spot
spots_in s around no_kids = []
spots_in s around (kid name x kids) = spot_of s around x ∷ spots_in s around kids

abbrev pub nothing : Item
nothing = item [] None no_kids

abbrev pub nowhere : Spot
nowhere = record { itself = nothing; resource = nothing }

abbrev pub numbered : List Spot → ℕ → Spot
numbered xs i = get_or xs i nowhere

-- the schema by which a resource was typed, the texts of the unread rules that a user vouches for, and the resource's items in a row
pub record LayoutValue : Type 0 where
  pub schema : SchemaValue
  pub given : List Text
  pub spots : List Spot

abbrev pub laid_out : SchemaValue → List Text → List Stand → LayoutValue
laid_out s given stands = record { schema = s; given = given; spots = map spot_in stands }

-- the place of a number in the row: its own, or the first where it has none
abbrev pub place_in_row : LayoutValue → ℕ → ℕ
place_in_row layout number = if nat_lt number (length layout.spots) then number else 0

-- the item of a number, and the nearest resource at or around it
abbrev pub spot_at : LayoutValue → ℕ → Spot
spot_at layout number = numbered layout.spots (place_in_row layout number)

abbrev pub item_at : LayoutValue → ℕ → Item
item_at layout number = (spot_at layout number).itself

abbrev pub resource_of : LayoutValue → ℕ → Item
resource_of layout number = nearest_to layout.schema (spot_at layout number).resource (spot_at layout number).itself

abbrev pub number_of : LayoutValue → Option ℕ → Option Item
number_of layout number = option_map (item_at layout) number

-- its index has the item's children, and an item that is a resource is its own nearest
pub record IsStand (s : SchemaValue) (stand : Stand) : Type 0 where
  pub indexed : IsIndexOf (spot_in stand).itself stand.kids_by_name
  pub nearest : nearest_to s (spot_in stand).resource (spot_in stand).itself ≡ (spot_in stand).resource

abbrev pub AreStands : SchemaValue → List Stand → Type 0
AreStands s stands = AllByRecursion (IsStand s) stands

abbrev pub kids_at : SchemaValue → List Spot → ℕ → List Spot
kids_at s xs i = spots_in s (numbered xs i).resource (kids_of (numbered xs i).itself)

-- the children of the item at a place stand side by side from that number on
pub record AreFrom (s : SchemaValue) (xs : List Spot) (i first : ℕ) : Type 0 where
  pub behind : i < first
  pub within : first + length (kids_at s xs i) ≤ length xs
  pub each : (j : ℕ) → j < length (kids_at s xs i) → slice_get xs (first + j) ≡ slice_get (kids_at s xs i) j

abbrev pub AreLaid : SchemaValue → List Spot → List ℕ → Type 0
AreLaid s xs firsts = (i : ℕ) → i < length firsts → AreFrom s xs i (get_or firsts i 0)

-- the items of a resource, with the number of each one's first child
pub record IsLaid (s : SchemaValue) (stands : List Stand) (firsts : List ℕ) : Type 0 where
  pub stood : AreStands s stands
  pub each : length firsts ≡ length stands
  pub laid : AreLaid s (map spot_in stands) firsts
  pub some : 0 < length stands
