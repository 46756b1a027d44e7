-- How the tree of an element grows.
use Rattle.std.proofs.Common.{◌≡◌, List, [], ◌∷◌, ◌++◌, map, refl, sym, ap, ◌∙◌, string_bytes, rules}
use Rattle.std.proofs.lemmas.List.{map_push}
use Rattle.std.specs.declared.alloc.Global.{Global}
use Rattle.std.specs.declared.string.String.{String}
use Rattle.fhir_markup.specs.declared.markup.Markup.{Markup, fold-roll-Markup}
use Rattle.fhir_markup.specs.declared.markup.Markup.TheVariants as pieces
use Rattle.fhir_markup.specs.declared.markup.Markup.TheOpen.{Element-F}
use Rattle.fhir_markup.specs.declared.markup.Element.{Element, roll-Element, fold-roll-Element, fold_out-Element}
use Rattle.fhir_markup.specs.Markup.{Node, words, element, also, nodes_of, and_last}
use Rattle.fhir_markup.specs.Views.{attribute_of, node_of, nodes_seen, element_node}

pub words_seen : (text : String Global) → node_of (pieces.Words text) ≡ words (string_bytes text)
words_seen text = ap node_of (sym (pieces.rolls-Words text)) ∙ search (rules, fold-roll-Markup)

pub element_seen : (e : Element) → node_of (pieces.Element e) ≡ element_node e
element_seen e = ap node_of (sym (pieces.rolls-Element e)) ∙ search (rules, fold-roll-Markup)

pub rolled : (e : Element-F Markup Element) → element_node (roll-Element e) ≡ element e.tag (map attribute_of e.attributes.items) (nodes_seen e.children.items)
rolled e = search (rules, fold-roll-Element)

pub opened : (e : Element) → element_node e ≡ element e.tag (map attribute_of e.attributes.items) (nodes_seen e.children.items)
opened e = search (rules, fold_out-Element)

of_nodes : (ns : List Node) (n : Node) → nodes_of (ns ++ n ∷ []) ≡ and_last (nodes_of ns) n
of_nodes [] n = refl
of_nodes (m ∷ ns) n = ap (also m) (of_nodes ns n)

pub one_more : (ms : List Markup) (m : Markup) (n : Node) → node_of m ≡ n → nodes_seen (ms ++ m ∷ []) ≡ and_last (nodes_seen ms) n
one_more ms m n is =
    ap nodes_of (map_push node_of ms m) ∙ of_nodes (map node_of ms) (node_of m) ∙ ap (λ (x : Node). and_last (nodes_seen ms) x) is
