-- Pairs as they are told.
use Rattle.std.specs.Prelude.{◌++◌, codes}
use Rattle.fhir_json.specs.Tree.{Text}
use Rattle.fhir_nodes.specs.declared.node.NodeRef.{NodeRef}
use Rattle.fhir_schema.specs.Schemas.{SchemaValue, url_at, id_of_node}
use Rattle.fhir_certificate.specs.declared.pair.Pair.{Pair}
use Rattle.fhir_certificate.specs.declared.pair.Pair.TheVariants.{Item, Kids}

-- a node is its definition's url, and its id
abbrev pub node_text : SchemaValue → NodeRef → Text
node_text s n = url_at s n.definition ++ codes "#" ++ id_of_node s n

abbrev pub pair_word : Pair → Text
pair_word (Item p) = codes "item "
pair_word (Kids p) = codes "kids "

abbrev pub derived_of : Pair → NodeRef
derived_of (Item p) = p.derived
derived_of (Kids p) = p.derived

abbrev pub base_of : Pair → NodeRef
base_of (Item p) = p.base
base_of (Kids p) = p.base

abbrev pub pair_text : SchemaValue → Pair → Text
pair_text s pair = pair_word pair ++ node_text s (derived_of pair) ++ codes " " ++ node_text s (base_of pair)
