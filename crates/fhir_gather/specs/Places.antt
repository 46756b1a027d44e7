-- Places of definitions under their kinds and urls.
use Rattle.std.specs.Prelude.{◌≡◌, ℕ, List, [], ◌&&◌, Option, Some, if◌then◌else◌}
use Rattle.std.specs.List.{position_from}
use Rattle.std.specs.Str.{bytes_eq}
use Rattle.fhir_json.specs.Tree.{Text}
use Rattle.fhir_names.specs.Places.{Places, place_of}
use Rattle.fhir_package.specs.declared.kind.Kind.{Kind}
use Rattle.fhir_package.specs.declared.kind.Kind.TheVariants.{StructureDefinition, ValueSet, CodeSystem}
use Rattle.fhir_package.specs.Changing.{is_same_kind}
use Rattle.fhir_gather.specs.Gathering.{Taken, is_of}

-- of each kind places under urls
pub record PlacesByKind : Type 0 where
  pub structure_definitions : Places
  pub value_sets : Places
  pub code_systems : Places

abbrev pub no_places : PlacesByKind
no_places = record { structure_definitions = []; value_sets = []; code_systems = [] }

abbrev pub places_of : Kind → PlacesByKind → Places
places_of StructureDefinition p = p.structure_definitions
places_of ValueSet p = p.value_sets
places_of CodeSystem p = p.code_systems

-- the place of a kind and url, if it has one
abbrev pub place_at : Kind → Text → PlacesByKind → Option ℕ
place_at kind url p = place_of (places_of kind p) url

-- the kind and url has that place, and each other the place that it had
abbrev pub PutsAt : PlacesByKind → PlacesByKind → Kind → Text → ℕ → Type 0
PutsAt old new kind url place =
    (k : Kind) (u : Text) → place_at k u new ≡ (if is_same_kind k kind && bytes_eq u url then Some place else place_at k u old)

-- each kind and url has the place of the first definition that is of it, and none where none is
abbrev pub AreFirst : PlacesByKind → List Taken → Type 0
AreFirst p ts = (kind : Kind) (url : Text) → place_at kind url p ≡ position_from (is_of kind url) 0 ts
