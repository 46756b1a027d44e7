-- How the items of an element stand to one another, where it has slices (FHIR R4, ElementDefinition, slicing.ordered and
-- slicing.rules): in the order of their slices, and those in none of them at the end.
use Rattle.std.specs.Prelude.{ℕ, List, [], ◌∷◌, map, nat_le, Bool, true, false, not, ◌&&◌, ◌||◌, Option, None, Some, is_some, is_none, if◌then◌else◌}
use Rattle.std.specs.Option.{option_map, option_map_or, option_and_then}
use Rattle.std.specs.List.{list_all, list_any}
use Rattle.fhir_json.specs.Tree.{Text}
use Rattle.fhir_json.specs.Bytes.{is_empty}
use Rattle.fhir_elements.specs.declared.slicing.SlicingRules.{SlicingRules}
use Rattle.fhir_elements.specs.declared.slicing.SlicingRules.TheVariants.{Closed, Open, OpenAtEnd}
use Rattle.fhir_elements.specs.Element.{Element}
use Rattle.fhir_nodes.specs.declared.node.NodeRef.{NodeRef}
use Rattle.fhir_nodes.specs.Slots.{Slot}
use Rattle.fhir_schema.specs.Schemas.{SchemaValue, element_at, entry_of, slices, slice_named, is_closed}
use Rattle.fhir_facets.specs.Cardinality.{is_forbidden}

-- ---- what an element says

abbrev pub orders_items : Element → Bool
orders_items e = option_map_or (λ ordered. ordered) (option_and_then (λ s. s.ordered) e.slicing) false

abbrev pub ends_openly : SlicingRules → Bool
ends_openly Closed = false
ends_openly Open = false
ends_openly OpenAtEnd = true

abbrev pub opens_at_end : Element → Bool
opens_at_end e = option_map_or ends_openly (option_and_then (λ s. s.rules) e.slicing) false

-- the items of the node's element stand in the order of its slices
abbrev pub is_ordered : SchemaValue → NodeRef → Bool
is_ordered s n = option_map_or orders_items (element_at s n) false

-- items that are in none of the slices stand behind those that are in one
abbrev pub is_open_at_end : SchemaValue → NodeRef → Bool
is_open_at_end s n = option_map_or opens_at_end (element_at s n) false

-- ---- items one behind the other, each by the place of its slice in the definition; an item that is in none has no place

-- each of a list with each behind it
abbrev pub each_pair : {A : Type 0} → (A → A → Bool) → List A → Bool
each_pair p [] = true
each_pair p (x ∷ xs) = list_all (p x) xs && each_pair p xs

-- the slice of the earlier item doesn't stand after that of the later one
abbrev pub may_follow : Option ℕ → Option ℕ → Bool
may_follow None later = true
may_follow (Some earlier) None = true
may_follow (Some earlier) (Some later) = nat_le earlier later

-- none of a list that passes the second test stands behind one that passes the first
abbrev pub none_behind : {A : Type 0} → (first second : A → Bool) → List A → Bool
none_behind first second xs = each_pair (λ earlier later. not (first earlier && second later)) xs

-- the items stand in the order of their slices
abbrev pub are_in_order : List (Option ℕ) → Bool
are_in_order places = each_pair may_follow places

-- no item in a slice comes behind one that is in none
abbrev pub is_rest_last : List (Option ℕ) → Bool
is_rest_last places = none_behind is_none is_some places

-- the last place of two, one behind the other, if one has a place (used by private contracts alone)
abbrev pub later_of : Option ℕ → Option ℕ → Option ℕ
later_of earlier None = earlier
later_of earlier (Some place) = Some place

-- ---- asked of the names of the slices that the items are in; a name that no slice has is that of an item in none

-- the place in the definition of the slice of a name
abbrev pub place_named : SchemaValue → NodeRef → Text → Option ℕ
place_named s n name = option_map (λ slice. slice.entry) (slice_named s n name)

abbrev pub order_holds : SchemaValue → NodeRef → List Text → Bool
order_holds s n names =
    (not (is_ordered s n) || are_in_order (map (place_named s n) names))
    && (not (is_open_at_end s n) || is_rest_last (map (place_named s n) names))

-- ---- narrowing

-- items may be in the slice
abbrev pub is_live : SchemaValue → NodeRef → Slot → Bool
is_live s n slice = not (option_map_or is_forbidden (element_at s (entry_of n slice)) false)

-- where the base has a slice in which items may be; it has no place if the base lacks it, or no item may be in it
abbrev pub base_place : SchemaValue → NodeRef → NodeRef → Slot → Option ℕ
base_place s n m slice = if is_live s n slice then place_named s m slice.name else None

-- Where the base's items have an order, so have these; and the slices in which items may be, and that the base has too, stand in the
-- base's order.
abbrev pub ordered_narrower : SchemaValue → NodeRef → NodeRef → Bool
ordered_narrower s n m =
    is_empty (slices s m) || not (is_ordered s m) || (is_ordered s n && are_in_order (map (base_place s n m) (slices s n)))

-- where a test tells which slices the base has
module _ (has : Slot → Bool) (s : SchemaValue) (n : NodeRef) where
  -- items may be in the slice, and the base lacks it; or has it
  abbrev pub is_new : Slot → Bool
  is_new slice = is_live s n slice && not (has slice)

  abbrev pub is_kept : Slot → Bool
  is_kept slice = is_live s n slice && has slice

  -- no new slice stands before one that the base has
  abbrev pub new_come_last : Bool
  new_come_last = none_behind is_new is_kept (slices s n)

  -- there is no new slice, or the items of those come last
  abbrev pub new_are_rest : Bool
  new_are_rest = not (list_any is_new (slices s n)) || (is_ordered s n && new_come_last)

  -- Where the base is open at its end, this is closed, or open at its end too; and items of new slices come last.
  abbrev pub end_narrower_by : NodeRef → Bool
  end_narrower_by m =
      is_empty (slices s m) || not (is_open_at_end s m) || ((is_closed s n || is_open_at_end s n) && new_are_rest)

-- the base has a slice of its name
abbrev pub has_named : SchemaValue → NodeRef → Slot → Bool
has_named s m slice = is_some (slice_named s m slice.name)

abbrev pub end_narrower : SchemaValue → NodeRef → NodeRef → Bool
end_narrower s n m = end_narrower_by (has_named s m) s n m

abbrev pub order_narrower : SchemaValue → NodeRef → NodeRef → Bool
order_narrower s n m = ordered_narrower s n m && end_narrower s n m

-- the name is that of a slice in which items may be; or the element isn't closed, and neither has a slice of that name
abbrev pub may_be_in : SchemaValue → NodeRef → NodeRef → Text → Bool
may_be_in s n m name = option_map_or (is_live s n) (slice_named s n name) (not (is_closed s n) && is_none (slice_named s m name))
