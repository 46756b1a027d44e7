use Rattle.std.proofs.Common.{◌∙◌, sym, ap, map}
use Rattle.fhir_markup.specs.Markup.{Node, Nodes, words, element, with_child}
use Rattle.fhir_markup.specs.Views.{attribute_of, nodes_seen}
use Rattle.fhir_markup.proofs.Growing.{rolled, opened, one_more, words_seen}
use Rattle.fhir_markup.proofs.markup.Element.push_text.Goals as goal

pub returns : goal.returns
returns c =
    let xs = map attribute_of c.args.self.now.attributes.items in
    let grown = ap nodes_seen c.in_ok-push.ensures.items ∙ one_more c.args.self.now.children.items _ (words c.args.text.now) (words_seen c.in_ok-words.words ∙ ap words c.in_ok-words.ensures.ok) in
    rolled _ ∙ ap (λ (ns : Nodes). element c.args.self.now.tag xs ns) grown ∙ ap (λ (x : Node). with_child x (words c.args.text.now)) (sym (opened c.args.self.now))
