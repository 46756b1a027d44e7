-- The rules of a node's element that aren't judged, whatever the resource is, but for its constraints.
use Rattle.std.specs.Prelude.{List, [], ◌++◌}
use Rattle.std.specs.List.{flat_map}
use Rattle.std.specs.Option.{option_map_or}
use Rattle.fhir_elements.specs.Element.{Element, required_value_set}
use Rattle.fhir_elements.specs.TypeEntry.{TypeEntry}
use Rattle.fhir_nodes.specs.declared.node.NodeRef.{NodeRef}
use Rattle.fhir_schema.specs.Schemas.{SchemaValue, types}
use Rattle.fhir_facets.specs.Unread.{Unread}
use Rattle.fhir_facets.specs.Carried.{range_unread, target_unread, profile_unread, value_set_unread}

-- the targets and the profiles of a type entry
abbrev pub entry_rules : SchemaValue → TypeEntry → List Unread
entry_rules s e = flat_map (target_unread s) e.targets ++ flat_map (profile_unread s) e.profiles

-- the bounds, the types and the binding of a node's element
abbrev pub element_rules : SchemaValue → NodeRef → Element → List Unread
element_rules s n e =
    range_unread e ++ (flat_map (entry_rules s) (types s n) ++ option_map_or (value_set_unread s) (required_value_set e) [])
