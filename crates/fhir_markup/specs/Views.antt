-- The tree that a page's markup is.
use Rattle.std.specs.Prelude.{List, map, string_bytes}
use Rattle.fhir_markup.specs.Markup.{AttributeValue, fixed, counted, place, link, labelled_by, Node, Nodes, words, element, nodes_of}
use Rattle.fhir_markup.specs.declared.markup.Attribute.{Attribute}
use Rattle.fhir_markup.specs.declared.markup.Attribute.TheVariants as attributes
use Rattle.fhir_markup.specs.declared.markup.Markup.{Markup, fold-Markup, Markup-F}
use Rattle.fhir_markup.specs.declared.markup.Markup.TheOpen.{Element-F}
use Rattle.fhir_markup.specs.declared.markup.Element.{Element, fold-Element}

abbrev pub attribute_of : Attribute → AttributeValue
attribute_of (attributes.Fixed name text) = fixed name text.now
attribute_of (attributes.Number name n) = counted name n
attribute_of (attributes.Id part n) = place part n
attribute_of (attributes.Link part n) = link part n
attribute_of (attributes.LabelledBy part n) = labelled_by part n

-- one level, with each piece inside already seen as its node
abbrev pub markup_step : Markup-F Node Node → Node
markup_step (Markup-F.Words text) = words (string_bytes text)
markup_step (Markup-F.Element e) = e

abbrev pub element_step : Element-F Node Node → Node
element_step e = element e.tag (map attribute_of e.attributes.items) (nodes_of e.children.items)

abbrev pub node_of : Markup → Node
node_of = fold-Markup Node Node markup_step element_step

abbrev pub element_node : Element → Node
element_node = fold-Element Node Node markup_step element_step

abbrev pub nodes_seen : List Markup → Nodes
nodes_seen ms = nodes_of (map node_of ms)
