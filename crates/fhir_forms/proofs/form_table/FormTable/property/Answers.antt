use Rattle.std.proofs.Common.{◌≡◌, Some, None, ap, sym, ◌∙◌}
use Rattle.std.specs.List.{slice_get}
use Rattle.fhir_forms.specs.Forms.{property_of}
use Rattle.fhir_forms.proofs.Meaning.{meaning_found}
use Rattle.fhir_forms.proofs.form_table.FormTable.property.Goals as goal

pub returns-in-Some : goal.returns-in-Some
returns-in-Some c =
    let seen : c.self.inside.forms.items ≡ c.args.self.now = cc in
    let items : c.deref.result.now ≡ c.self.inside.names.meanings.items = c.deref.ensures.value in
    c.meaning_at.ensures ∙ ap (λ ms. slice_get ms c.in-Some.place) items
    ∙ meaning_found c.self.inside.names.meanings.items c.self.inside.names.places c.self.inside.forms.items c.args.name.now (Some c.in-Some.place)
    c.self.invariant (sym c.in-Some.is ∙ c.get.ensures)
    ∙ ap (λ fs. property_of fs c.args.name.now) seen

pub returns-in-None : goal.returns-in-None
returns-in-None c =
    let seen : c.self.inside.forms.items ≡ c.args.self.now = cc in
    meaning_found c.self.inside.names.meanings.items c.self.inside.names.places c.self.inside.forms.items c.args.name.now None c.self.invariant
    (sym c.in-None.is ∙ c.get.ensures)
    ∙ ap (λ fs. property_of fs c.args.name.now) seen
