use Rattle.std.proofs.Common.{ap, sym, ◌∙◌}
use Rattle.std.specs.List.{slice_get}
use Rattle.std.specs.Option.{option_and_then}
use Rattle.fhir_inheritance.specs.Elements.{find}
use Rattle.fhir_inheritance.proofs.Keeping.{find-at}
use Rattle.fhir_inheritance.proofs.elements.Elements.get.Goals as goal

pub returns-in-Some : goal.returns-in-Some
returns-in-Some c =
    let es = c.self.inside.all.items in
    c.element_at.ensures
    ∙ ap (λ xs. slice_get xs c.in-Some.place) c.deref.ensures.value
    ∙ ap (option_and_then (slice_get es)) (sym c.in-Some.is ∙ c.get.ensures ∙ c.self.invariant.ids c.args.id.now)
    ∙ sym (find-at es c.args.id.now)
    ∙ ap (λ xs. find xs c.args.id.now) c.self.view_is

pub returns-in-None : goal.returns-in-None
returns-in-None c =
    let es = c.self.inside.all.items in
    ap (option_and_then (slice_get es)) (sym c.in-None.is ∙ c.get.ensures ∙ c.self.invariant.ids c.args.id.now)
    ∙ sym (find-at es c.args.id.now)
    ∙ ap (λ xs. find xs c.args.id.now) c.self.view_is
