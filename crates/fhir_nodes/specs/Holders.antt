-- What a node takes over from the element that it refers to for its content: the children, and the types of its items.
use Rattle.std.specs.Prelude.{ℕ, List, [], length, get_or, Bool, ◌&&◌, nat_eq, nat_lt, Option, None, Some, if◌then◌else◌}
use Rattle.std.specs.Option.{option_map_or, option_and_then, option_or}
use Rattle.fhir_elements.specs.TypeEntry.{TypeEntry}
use Rattle.fhir_elements.specs.Element.{Element}
use Rattle.fhir_definition.specs.Definition.{Definition}
use Rattle.fhir_nodes.specs.declared.node.NodeRef.{NodeRef}
use Rattle.fhir_nodes.specs.Contents.{element_of, target, entries_of}
use Rattle.fhir_nodes.specs.Slots.{Slot, all_slots}

abbrev pub slots_at : List Definition → NodeRef → List Slot
slots_at ds n = get_or (get_or (all_slots ds) n.definition []) n.element []

-- the node, if it has children
abbrev pub with_children : List Definition → NodeRef → Option NodeRef
with_children ds n = if nat_eq (length (slots_at ds n)) 0 then None else Some n

-- the node that has a node's children: itself, if it has any, and else the one that it refers to
abbrev pub holder : List Definition → NodeRef → Option NodeRef
holder ds n = option_or (with_children ds n) (target ds n)

-- that one, if it has children
abbrev pub child_holder : List Definition → NodeRef → Option NodeRef
child_holder ds n = option_and_then (with_children ds) (holder ds n)

abbrev pub has_own_types : List Definition → NodeRef → Element → Bool
has_own_types ds n e = nat_lt 0 (length e.types) && nat_lt 0 (length (slots_at ds n))

-- the type entries that say of which types the node's items are: those of the element that it refers to, if it doesn't have
-- types and children of its own
abbrev pub typing_entries : List Definition → NodeRef → Element → List TypeEntry
typing_entries ds n e =
    if has_own_types ds n e then e.types else option_map_or entries_of (option_and_then (element_of ds) (target ds n)) e.types
