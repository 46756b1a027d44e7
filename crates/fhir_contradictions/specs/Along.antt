-- Where the path leads by which a slice is told, as long as it stays among the children that a node asks of. What an item belongs to hangs on
-- its children under a path's name and under the same with `[x]`, and a node asks of those alone that stand under its slot.
use Rattle.std.specs.Prelude.{List, [], ◌∷◌, ◌++◌, Bool, not, ◌&&◌, ◌||◌, is_some, Option, None, Some, if◌then◌else◌, codes}
use Rattle.std.specs.Option.{option_and_then}
use Rattle.std.specs.Str.{bytes_eq}
use Rattle.fhir_json.specs.Tree.{Text}
use Rattle.fhir_nodes.specs.declared.node.NodeRef.{NodeRef}
use Rattle.fhir_nodes.specs.Slots.{Slot}
use Rattle.fhir_forms.specs.Criteria.{slot_called}
use Rattle.fhir_schema.specs.Schemas.{SchemaValue, slots, slot_named, entry_of, holder}
use Rattle.fhir_contradictions.specs.Typing.{Under, typed_by}

-- the type's element has a child under a name that isn't the slot's
abbrev pub has_other : SchemaValue → NodeRef → Slot → Text → Bool
has_other s by slot name = not (bytes_eq name slot.name) && is_some (slot_named s by name)

-- of what a name calls, the type's element has no other child than the slot's
abbrev pub calls_alone : SchemaValue → NodeRef → Slot → Text → Bool
calls_alone s by slot name = not (has_other s by slot name || has_other s by slot (name ++ codes "[x]"))

-- what stands below a node, and what types the parents of its items, with their name
abbrev pub Next : Type 0
Next = NodeRef × Under

-- what a name leads to from a node, where a type's element that types the node's items has nothing else under it
abbrev pub next_in : SchemaValue → NodeRef → NodeRef → Text → Option Next
next_in s by h name =
    option_and_then (λ slot. if calls_alone s by slot name then Some (entry_of h slot, (by, slot.name)) else None) (slot_called (slots s h) name)

abbrev pub next_along : SchemaValue → Option NodeRef → NodeRef → Text → Option Next
next_along s by n name = option_and_then (λ b. option_and_then (λ h. next_in s b h name) (holder s n)) by

-- where names lead from a node, where it may be known which type's element types the node's items
abbrev pub end_along : SchemaValue → Option NodeRef → NodeRef → List Text → Option NodeRef
end_along s by n [] = Some n
end_along s by n (name ∷ names) =
    option_and_then (λ next. end_along s (typed_by s (Some next.1) next.0) next.0 names) (next_along s by n name)
