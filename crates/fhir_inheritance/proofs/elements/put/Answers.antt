use Rattle.std.proofs.Common.{map, ◌∙◌}
use Rattle.std.proofs.lemmas.List.{length-map}
use Rattle.fhir_elements.specs.Element.{Element}
use Rattle.fhir_inheritance.proofs.Keeping.{kept-by}
use Rattle.fhir_inheritance.proofs.elements.put.Goals as goal

pub returns : goal.returns
returns c = λ es len kept.
    let ids = map (λ (e : Element). e.id) es in
    let found = c.in_ok-add.ensures.added ids kept.ids (length-map es (λ (e : Element). e.id) ∙ len) in
    kept-by es c.args.element.now c.id-id.result.now c.args.ids.now c.add.new.self c.args.children.now c.args.slices.now c.args.sliced.now
    c.put_child.new.children c.put_slice.new.slices c.put_sliced.new.sliced
    c.id-id.ensures kept found c.in_ok-put_child.ensures c.in_ok-put_slice.ensures c.in_ok-put_sliced.ensures
