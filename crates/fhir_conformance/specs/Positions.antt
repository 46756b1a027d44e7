-- The children of an item by their positions, and which of them belong to a slice (FHIR R4, Profiling, slicing).
use Rattle.std.specs.Prelude.{ℕ, zero, suc, List, filter, Bool, false, Option, None, Some}
use Rattle.std.specs.Option.{option_map, option_map_or, option_and_then}
use Rattle.fhir_nodes.specs.declared.node.NodeRef.{NodeRef}
use Rattle.fhir_nodes.specs.Slots.{Slot}
use Rattle.fhir_schema.specs.Schemas.{SchemaValue, criteria}
use Rattle.fhir_instance.specs.Items.{Item, Kids, no_kids, kid, kids_of}
use Rattle.fhir_slicing.specs.Belonging.{belongs, slice_of}

abbrev pub kid_at : Kids → ℕ → Option Item
kid_at no_kids i = None
kid_at (kid name x kids) zero = Some x
kid_at (kid name x kids) (suc i) = kid_at kids i

-- the child passes a test; what isn't there does so too, or doesn't
abbrev pub at_kid : Bool → (Item → Bool) → Item → ℕ → Bool
at_kid otherwise test x i = option_map_or test (kid_at (kids_of x) i) otherwise

-- those of these positions whose children belong to the slice that the node is
abbrev pub members : SchemaValue → Item → NodeRef → List ℕ → List ℕ
members s x slice places = filter (at_kid false (belongs s (criteria s slice)) x) places

-- the first slice of a node's element that the child is in
abbrev pub slice_at : SchemaValue → Item → NodeRef → ℕ → Option Slot
slice_at s x n i = option_and_then (slice_of s n) (kid_at (kids_of x) i)

-- where that slice stands in the definition; a child that is in none has no place
abbrev pub slice_place : SchemaValue → Item → NodeRef → ℕ → Option ℕ
slice_place s x n i = option_map (λ slice. slice.entry) (slice_at s x n i)
