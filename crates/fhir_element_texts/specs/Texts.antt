-- What an element allows, in words.
use Rattle.std.specs.Prelude.{List, [], ◌∷◌, ◌++◌, Option, None, Some, if◌then◌else◌, codes, decimal}
use Rattle.std.specs.Fmt.{signed_decimal}
use Rattle.std.specs.List.{flat_map}
use Rattle.std.specs.Option.{option_map_or, unwrap_or}
use Rattle.fhir_json.specs.Tree.{Text, Property}
use Rattle.fhir_json.specs.Compact.{compact}
use Rattle.fhir_elements.specs.declared.max.Max.{Max}
use Rattle.fhir_elements.specs.declared.max.Max.TheVariants.{UpTo, Unbounded}
use Rattle.fhir_elements.specs.Element.{Element}
use Rattle.fhir_elements.specs.TypeEntry.{TypeEntry}
use Rattle.fhir_nodes.specs.declared.node.NodeRef.{NodeRef}
use Rattle.fhir_schema.specs.Schemas.{SchemaValue, is_root_node, types}
use Rattle.fhir_schema.specs.Covers.{type_at}

-- ---- numbers

abbrev pub most_text : Option Max → Text
most_text (Some (UpTo n)) = decimal n
most_text (Some Unbounded) = codes "*"
most_text None = codes "*"

-- how many there may be
abbrev pub cardinality_text : Element → Text
cardinality_text e = decimal (unwrap_or e.min 0) ++ codes ".." ++ most_text e.max

-- how long texts may be
abbrev pub length_text : Element → Text
length_text e = option_map_or signed_decimal e.max_length (codes "any length")

-- ---- values

-- a value under its whole name
abbrev pub value_text : Property → Text
value_text p = p.0 ++ codes " " ++ compact p.1

abbrev pub member_text : Option Property → Text
member_text None = codes "nothing"
member_text (Some p) = value_text p

abbrev pub members_text : Option Property → Option Property → Text
members_text None q = member_text q
members_text (Some p) None = value_text p
members_text (Some p) (Some q) = value_text p ++ codes ", " ++ value_text q

-- ---- types

abbrev pub urls_text : Text → List Text → Text
urls_text opening [] = []
urls_text opening (u ∷ us) = opening ++ u ++ flat_map (λ v. codes " or " ++ v) us

-- a type with its profiles and its targets
abbrev pub type_text : TypeEntry → Text
type_text e = e.code ++ urls_text (codes " as ") e.profiles ++ urls_text (codes " to ") e.targets

abbrev pub types_text : List TypeEntry → Text
types_text [] = codes "any type"
types_text (e ∷ es) = type_text e ++ flat_map (λ f. codes ", " ++ type_text f) es

-- those of a node's items; of a root its own type
abbrev pub node_types_text : SchemaValue → NodeRef → Text
node_types_text s n = if is_root_node s n then type_at s n else types_text (types s n)
