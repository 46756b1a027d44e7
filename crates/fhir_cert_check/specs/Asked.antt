-- The pairs that a pair asks for: those that its rules look up, in the order of the rules, whether the rules hold or not.
use Rattle.std.specs.Prelude.{List, [], ◌∷◌, ◌++◌, Bool, ◌&&◌, Option, None, Some, is_some, if◌then◌else◌}
use Rattle.std.specs.Option.{option_map, option_map_or, option_and_then, option_to_list}
use Rattle.std.specs.List.{list_all, flat_map}
use Rattle.std.specs.Str.{bytes_eq}
use Rattle.fhir_json.specs.Tree.{Text}
use Rattle.fhir_elements.specs.TypeEntry.{TypeEntry}
use Rattle.fhir_nodes.specs.declared.node.NodeRef.{NodeRef}
use Rattle.fhir_nodes.specs.Slots.{Slot}
use Rattle.fhir_nodes.specs.Types.{names_resource}
use Rattle.fhir_schema.specs.Schemas.{SchemaValue, entry_of, slots, slot_named, slices, slice_named, holder, child_holder, types, type_root, loaded}
use Rattle.fhir_schema.specs.Covers.{covers}
use Rattle.fhir_facets.specs.Targets.{targets_narrower}
use Rattle.fhir_certificate.specs.declared.pair.Pair.{Pair}
use Rattle.fhir_certificate.specs.declared.pair.Pair.TheVariants.{Item, Kids}
use Rattle.fhir_certificate.specs.Certificate.{are_nodes}
use Rattle.fhir_cert_check.specs.Rules.{is_forbidden_at}

-- the pair of two nodes of items, and that of children
abbrev pub item_pair : NodeRef → NodeRef → Pair
item_pair n m = Item (record { derived = n; base = m })

abbrev pub kids_pair : NodeRef → NodeRef → Pair
kids_pair base n = Kids (record { derived = n; base = base })

-- the children of a node, if there is one, with those of the base node
abbrev pub kids_asked : NodeRef → Option NodeRef → List Pair
kids_asked base derived = option_to_list (option_map (kids_pair base) derived)

module _ (s : SchemaValue) where
  -- ---- types (a root has none, and so two nodes of which one is a root ask for nothing here)

  -- the pair of the roots of two profiles of different texts, if both are loaded
  abbrev pub roots_pair : Text → Text → Option Pair
  roots_pair own base = if bytes_eq own base then None else option_and_then (λ n. option_map (item_pair n) (loaded s base)) (loaded s own)

  -- a profile of the derived node with each of these of the base node
  abbrev pub roots_asked : List Text → Text → List Pair
  roots_asked bases own = flat_map (λ base. option_to_list (roots_pair own base)) bases

  -- the profiles of an entry of the base node, if it allows the derived one's type
  abbrev pub base_profiles : TypeEntry → TypeEntry → List Text
  base_profiles e f = if covers s f.code e.code && targets_narrower s e f then f.profiles else []

  -- for a profile of the derived node's entry: the profiles of an entry of the base node that allows the derived one's type
  abbrev pub profile_asked : TypeEntry → Text → TypeEntry → List Pair
  profile_asked e own f = if covers s f.code e.code && targets_narrower s e f then roots_asked f.profiles own else []

  abbrev pub entry_asked : List TypeEntry → TypeEntry → List Pair
  entry_asked fs e = flat_map (λ own. flat_map (profile_asked e own) fs) e.profiles

  abbrev pub types_asked : NodeRef → NodeRef → List Pair
  types_asked n m = flat_map (entry_asked (types s m)) (types s n)

  -- ---- children

  -- those of the profiles that an entry names, where each of them can be used
  abbrev pub profiles_kids_asked : NodeRef → List Text → List Pair
  profiles_kids_asked base profiles =
      if list_all (λ p. is_some (loaded s p)) profiles then flat_map (λ p. kids_asked base (loaded s p)) profiles else []

  -- the root of the definition of an entry's type, unless that is a type of resources
  abbrev pub code_root : TypeEntry → Option NodeRef
  code_root e = if names_resource s.definitions e.code then None else type_root s e.code

  abbrev pub entry_kids_asked : NodeRef → TypeEntry → List Pair
  entry_kids_asked base e = profiles_kids_asked base e.profiles ++ kids_asked base (code_root e)

  -- where the base node has children: the derived node's, and those of each type that it names
  abbrev pub children_asked : NodeRef → NodeRef → List Pair
  children_asked n m =
      option_map_or (λ base. kids_asked base (holder s n) ++ flat_map (entry_kids_asked base) (types s n)) (child_holder s m) []

  -- ---- slots and slices

  -- no pair is asked for where no item may be
  abbrev pub allowed_pair : NodeRef → NodeRef → Option Pair
  allowed_pair n m = if is_forbidden_at s n then None else Some (item_pair n m)

  -- for a slice of the base's element that the derived one has
  abbrev pub slice_pair : NodeRef → NodeRef → Slot → Option Pair
  slice_pair n m b = option_and_then (λ a. allowed_pair (entry_of n a) (entry_of m b)) (slice_named s n b.name)

  -- for two elements of a slot: their own pair, and those of their slices
  abbrev pub elements_asked : NodeRef → NodeRef → List Pair
  elements_asked n m =
      if is_forbidden_at s n then [] else item_pair n m ∷ flat_map (λ b. option_to_list (slice_pair n m b)) (slices s m)

  -- for a slot of the base node that the derived one has
  abbrev pub slot_asked : NodeRef → NodeRef → Slot → List Pair
  slot_asked n m b = option_map_or (λ a. elements_asked (entry_of n a) (entry_of m b)) (slot_named s n b.name) []

  -- ---- pairs

  abbrev pub asked_for : Pair → List Pair
  asked_for (Item p) = types_asked p.derived p.base ++ children_asked p.derived p.base
  asked_for (Kids p) = flat_map (slot_asked p.derived p.base) (slots s p.base)

  -- ---- nodes

  -- both nodes of the pair are the schema's
  abbrev pub is_of_nodes : Pair → Bool
  is_of_nodes (Item p) = are_nodes s p
  is_of_nodes (Kids p) = are_nodes s p
