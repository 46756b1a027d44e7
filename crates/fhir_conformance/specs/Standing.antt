-- The children of a name that were passed, as far as one behind them may not follow them (used by private contracts alone).
use Rattle.std.specs.Prelude.{ℕ, List, [], ◌∷◌, ◌++◌, filter, Bool, nat_lt, Option, None, Some, is_none, if◌then◌else◌}
use Rattle.std.specs.Option.{option_map, option_map_or}
use Rattle.std.specs.List.{last_or}
use Rattle.fhir_nodes.specs.declared.node.NodeRef.{NodeRef}
use Rattle.fhir_schema.specs.Schemas.{SchemaValue}
use Rattle.fhir_instance.specs.Items.{Item}
use Rattle.fhir_conformance.specs.declared.sequence.Standing.{Standing}
use Rattle.fhir_conformance.specs.Positions.{slice_place}
use Rattle.fhir_conformance.specs.Asks.{Ask, own, in_order, rest_ask}

-- those whose slices stand after a place
abbrev pub behind : ℕ → List Standing → List Standing
behind place standing = filter (λ one. nat_lt place one.place) standing

-- what is asked of the child at a position, whose slice stands at a place: the nearest of those before it that it may not follow
abbrev pub placed_ask : NodeRef → (position place : ℕ) → List Standing → List Ask
placed_ask n position place standing =
    option_map_or (λ j. own (in_order j position) n ∷ []) (option_map (λ one. one.position) (last_or None (behind place standing))) []

abbrev pub nearest_ask : NodeRef → ℕ → Option ℕ → List Standing → List Ask
nearest_ask n position None standing = []
nearest_ask n position (Some place) standing = placed_ask n position place standing

-- those that are kept behind that child
abbrev pub put_behind : (position place : ℕ) → List Standing → List Standing
put_behind position place standing = behind place standing ++ record { position = position; place = place } ∷ []

abbrev pub remembered : ℕ → Option ℕ → List Standing → List Standing
remembered position None standing = standing
remembered position (Some place) standing = put_behind position place standing

module _ (s : SchemaValue) (x : Item) (n : NodeRef) where
  -- what is asked of the children at these places
  abbrev pub found_asks : List Standing → List ℕ → List Ask
  found_asks standing [] = []
  found_asks standing (i ∷ is) = nearest_ask n i (slice_place s x n i) standing ++ found_asks (remembered i (slice_place s x n i) standing) is

  -- the same of those in no slice, where one was passed that is in none, or none was
  abbrev pub rest_asks : Bool → List ℕ → List Ask
  rest_asks b [] = []
  rest_asks b (i ∷ is) = (if b then rest_ask n i ∷ [] else []) ++ rest_asks (if b then b else is_none (slice_place s x n i)) is
