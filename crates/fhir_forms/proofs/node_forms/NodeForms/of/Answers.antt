use Rattle.std.proofs.Common.{◌≡◌, ◌<◌, length, get_or, refl, ap, ◌∙◌, arith}
use Rattle.std.proofs.lemmas.Option.{slice_get_read}
use Rattle.fhir_elements.specs.declared.reason.Reason.TheVariants.{NoTree}
use Rattle.fhir_elements.specs.Causes.{blamed_reason, reason_unless}
use Rattle.fhir_definition.specs.Definition.{Definition}
use Rattle.fhir_forms.specs.Forms.{forms_of, spells_apart}
use Rattle.fhir_forms.proofs.Blamed.{item_more, so_many, one_blame_more}
use Rattle.fhir_forms.proofs.node_forms.NodeForms.of.Goals as goal

pub loop-place-preserved : goal.loop-place-preserved
loop-place-preserved c =
    let place = c.loop-place.place in
    let table = c.args.table.now in
    let definition = c.definition-item.result in
    let old = c.loop-place.blames.items in
    let reason = λ (d : Definition). reason_unless (spells_apart table d) NoTree in
    let within : place < length table = grind arith in
    let is : definition ≡ get_or table place definition = c.definition-item.is ∙ ap (λ l. get_or l place definition) c.definitions-definition-items.ensures in
    record {
      forms = item_more (λ v. v.items) (forms_of table) table place definition c.loop-place.tables.items c.push.new.self.items c.in_ok-forms.forms.tables
          within is c.loop-place.invariant.forms c.in_ok-push.ensures.items c.in_ok-forms.ensures.forms;
      reasons = item_more blamed_reason reason table place definition old c.push-in-loop-place.new.self.items c.in_ok-forms.forms.blame
          within is c.loop-place.invariant.reasons c.in_ok-push-2.ensures.items c.in_ok-forms.ensures.reason;
      elements = one_blame_more table old c.push-in-loop-place.new.self.items place definition c.in_ok-forms.forms.blame
          c.loop-place.invariant.elements (so_many blamed_reason reason table place old within c.loop-place.invariant.reasons)
          (slice_get_read table (length table) place definition refl within is) c.in_ok-forms.ensures.element c.in_ok-push-2.ensures.items;
    }
