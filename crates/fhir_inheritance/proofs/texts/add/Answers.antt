use Rattle.std.proofs.Common.{true, false, map, string_bytes, is_some, ◌++◌, ◌∷◌, [], ap, sym, ◌∙◌}
use Rattle.fhir_json.specs.Tree.{Text}
use Rattle.fhir_inheritance.proofs.Listed.{among, with-there, with-new, seen_snoc}
use Rattle.fhir_inheritance.proofs.texts.add.Goals as goal

pub returns-then-is_some-clause-added : goal.returns-then-is_some-clause-added
returns-then-is_some-clause-added c =
    let texts = map string_bytes c.args.all.now.items in
    sym (with-there texts c.args.text.now (among c.args.places.now texts c.args.text.now true c.requires
    (ap is_some (sym c.get.ensures) ∙ sym c.is_some.ensures ∙ c.if-is_some.true)))

pub returns-clause-added : goal.returns-clause-added
returns-clause-added c =
    let texts = map string_bytes c.args.all.now.items in
    seen_snoc c.args.all.now.items c.in_ok-text.text c.push.new.self.items c.in_ok-push.ensures.items
    ∙ ap (λ (t : Text). texts ++ t ∷ []) c.in_ok-text.ensures.ok
    ∙ sym (with-new texts c.args.text.now (among c.args.places.now texts c.args.text.now false c.requires
    (ap is_some (sym c.get.ensures) ∙ sym c.is_some.ensures ∙ c.if-is_some.false)))
