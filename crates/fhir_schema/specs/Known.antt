-- What is known of a node before any item is seen.
use Rattle.std.specs.Prelude.{Bool, Option}
use Rattle.std.specs.Option.{option_and_then}
use Rattle.fhir_nodes.specs.declared.node.NodeRef.{NodeRef}
use Rattle.fhir_summaries.specs.Summaries.{all_summaries, summary_at}
use Rattle.fhir_schema.specs.Schemas.{SchemaValue, root_in}

-- the root of the definition of the one type that the node's element names
abbrev pub only_type_root : SchemaValue → NodeRef → Option NodeRef
only_type_root s n = option_and_then (root_in s) (summary_at (all_summaries s.definitions) n).type

-- the node asks nothing of an item without children, but for its type
abbrev pub is_lenient : SchemaValue → NodeRef → Bool
is_lenient s n = (summary_at (all_summaries s.definitions) n).is_lenient
