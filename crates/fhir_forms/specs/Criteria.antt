-- By what an item is told to belong to a slice: what each discriminator looks for, and where (FHIR R4, ElementDefinition,
-- slicing.discriminator; Profiling, discriminator).
use Rattle.std.specs.Prelude.{ℕ, List, [], ◌∷◌, ◌++◌, map, length, get_or, Bool, true, false, ◌&&◌, ◌==◌, nat_lt, nat_eq, Option, None, Some, is_some, if◌then◌else◌, codes}
use Rattle.std.specs.Option.{option_map, option_map_or, option_and_then, option_or}
use Rattle.std.specs.List.{slice_get, slice_split, find, list_all, flat_map, range_with_len}
use Rattle.std.specs.Result.{result_ok}
use Rattle.std.specs.Str.{bytes_eq}
use Rattle.fhir_json.specs.Tree.{Text, Tree, string}
use Rattle.fhir_json.specs.Bytes.{dot}
use Rattle.fhir_names.specs.Canonicals.{read_canonical}
use Rattle.fhir_elements.specs.declared.max.Max.{Max}
use Rattle.fhir_elements.specs.declared.slicing.DiscriminatorType.{DiscriminatorType}
use Rattle.fhir_elements.specs.declared.slicing.DiscriminatorType.TheVariants as discriminators
use Rattle.fhir_elements.specs.Max.{is_within}
use Rattle.fhir_elements.specs.Slicing.{Discriminator}
use Rattle.fhir_elements.specs.TypeEntry.{TypeEntry}
use Rattle.fhir_elements.specs.Element.{Element}
use Rattle.fhir_definition.specs.Snapshot.{slice_place}
use Rattle.fhir_definition.specs.Definition.{Definition}
use Rattle.fhir_nodes.specs.Slots.{Slot, slots_of}
use Rattle.fhir_forms.specs.Forms.{is_choice}
use Rattle.fhir_forms.specs.Slicings.{discriminators_of}

-- what is looked for among the items at the end of a path
pub data Sought : Type 0 where
  -- one that is equal to the value, or that fits the pattern
  fixed pattern : Tree → Sought
  -- any, or none at all
  present absent : Sought
  -- one of a type that some of the codes covers
  typed : (codes : List (List ℕ)) → Sought

-- a discriminator with what it looks for, where it can be told; `$this` is the item itself, and has no names
pub record Criterion : Type 0 where
  pub by : DiscriminatorType
  pub path : Text
  pub names : List Text
  pub sought : Sought

-- ---- where a discriminator looks

abbrev pub names_of : Text → List Text
names_of path = if bytes_eq path (codes "$this") then [] else slice_split (λ b. b == dot) path

abbrev pub slot_in : List Slot → Text → Option Slot
slot_in slots name = find (λ slot. bytes_eq name slot.name) slots

-- a choice is named without its `[x]`
abbrev pub slot_called : List Slot → Text → Option Slot
slot_called slots name =
    if is_choice name then None else option_or (slot_in slots name) (slot_in slots (name ++ codes "[x]"))

-- the element to which the names lead from the one at a place, by the slots of each
abbrev pub end_of_path : List (List Slot) → ℕ → List Text → Option ℕ
end_of_path slots place [] = Some place
end_of_path slots place (name ∷ names) = option_and_then (λ slot. end_of_path slots slot.entry names) (slot_called (get_or slots place []) name)

-- ---- what it looks for, by the element there

abbrev pub value_sought : Element → Option Sought
value_sought e = option_or (option_map (λ p. fixed p.1) e.fixed) (option_map (λ p. pattern p.1) e.pattern)

abbrev pub allows_one : Max → Bool
allows_one most = is_within 1 most

abbrev pub presence_sought : Element → Option Sought
presence_sought e =
    if nat_lt 0 (option_map_or (λ least. least) e.min 0) then Some present
    else (if option_map_or allows_one e.max true then None else Some absent)

abbrev pub type_sought : Element → Option Sought
type_sought e = if nat_eq (length e.types) 0 then None else Some (typed (map (λ entry. entry.code) e.types))

abbrev pub sought_by : DiscriminatorType → Element → Option Sought
sought_by discriminators.Value e = value_sought e
sought_by discriminators.Pattern e = value_sought e
sought_by discriminators.Exists e = presence_sought e
sought_by discriminators.TypeCode e = type_sought e
sought_by discriminators.Profile e = None

-- ---- the url of extensions of one profile is that profile's (FHIR R4, Extensibility, url)

abbrev pub is_of_value : DiscriminatorType → Bool
is_of_value discriminators.Value = true
is_of_value discriminators.Pattern = true
is_of_value discriminators.Exists = false
is_of_value discriminators.TypeCode = false
is_of_value discriminators.Profile = false

-- the only one of a list
abbrev pub sole : {A : Type 0} → List A → Option A
sole [] = None
sole (x ∷ []) = Some x
sole (x ∷ y ∷ xs) = None

abbrev pub profile_of_extensions : TypeEntry → Option Text
profile_of_extensions entry = if bytes_eq entry.code (codes "Extension") then sole entry.profiles else None

abbrev pub extension_profile : Element → Option Text
extension_profile e = option_and_then profile_of_extensions (sole e.types)

-- without its version
abbrev pub url_sought : Element → Option Sought
url_sought e = option_map (λ c. fixed (string c.0)) (option_and_then (λ p. result_ok (read_canonical p)) (extension_profile e))

abbrev pub implied_sought : DiscriminatorType → Text → Element → Option Sought
implied_sought by path e = if is_of_value by && bytes_eq path (codes "url") then url_sought e else None

-- ---- the criteria of the slice at a place

module _ (slots : List (List Slot)) (es : List Element) (place : ℕ) where
  abbrev pub stated_sought : DiscriminatorType → Text → Option Sought
  stated_sought by path = option_and_then (sought_by by) (option_and_then (slice_get es) (end_of_path slots place (names_of path)))

  abbrev pub sought_at : DiscriminatorType → Text → Option Sought
  sought_at by path = option_or (stated_sought by path) (option_and_then (implied_sought by path) (slice_get es place))

  abbrev pub criterion_at : DiscriminatorType → Text → Option Criterion
  criterion_at by path =
      option_map (λ sought. record { by = by; path = path; names = names_of path; sought = sought }) (sought_at by path)

  -- a discriminator without a type or a path tells nothing
  abbrev pub criterion_of : Discriminator → Option Criterion
  criterion_of d = option_and_then (λ by. option_and_then (criterion_at by) d.path) d.by

  abbrev pub told_criteria : Discriminator → List Criterion
  told_criteria d = option_map_or (λ c. c ∷ []) (criterion_of d) []

  abbrev pub is_told : Discriminator → Bool
  is_told d = is_some (criterion_of d)

  -- there is a discriminator, and each of them can be told
  abbrev pub is_told_by : Element → Bool
  is_told_by sliced = nat_lt 0 (length (discriminators_of sliced)) && list_all is_told (discriminators_of sliced)

  -- where the element that it is a slice of says so; a slice that can't be told has none
  abbrev pub criteria_by : Element → List Criterion
  criteria_by sliced = if is_told_by sliced then flat_map told_criteria (discriminators_of sliced) else []

-- the element that the one at a place is a slice of
abbrev pub sliced_at : List Element → ℕ → Option Element
sliced_at es place = option_and_then (slice_get es) (option_and_then (slice_place es) (slice_get es place))

-- ---- the criteria of each element of a definition, which are none where that is no slice

module _ (ds : List Definition) (d : Definition) where
  abbrev pub criteria_in : ℕ → List Criterion
  criteria_in place = option_map_or (criteria_by (slots_of ds d) d.elements place) (sliced_at d.elements place) []

  abbrev pub is_told_apart : ℕ → Bool
  is_told_apart place = option_map_or (is_told_by (slots_of ds d) d.elements place) (sliced_at d.elements place) true

  abbrev pub places_of : List ℕ
  places_of = range_with_len 0 (length d.elements)

  abbrev pub criteria_of : List (List Criterion)
  criteria_of = map criteria_in places_of

  -- of each slice it can be told which items belong to it
  abbrev pub are_told_apart : Bool
  are_told_apart = list_all is_told_apart places_of

-- those of each element of each definition
abbrev pub all_criteria : List Definition → List (List (List Criterion))
all_criteria ds = map (criteria_of ds) ds
