use Rattle.std.proofs.Common.{◌≡◌, ◌+◌, ◌<◌, List, length, take, ap, ◌∙◌, arith}
use Rattle.std.specs.Option.{option_map}
use Rattle.std.specs.List.{list_all}
use Rattle.fhir_elements.specs.declared.reason.Reason.TheVariants.{NoTree}
use Rattle.fhir_elements.specs.Causes.{reason_of, blamed_reason, reason_unless}
use Rattle.fhir_nodes.specs.Slots.{Slot}
use Rattle.fhir_forms.specs.Forms.{are_apart, if_apart, forms_under}
use Rattle.fhir_forms.proofs.Blamed.{first_of, all_more, list_more}
use Rattle.fhir_forms.proofs.node_forms.type_forms.Goals as goal

pub loop-place-preserved : goal.loop-place-preserved
loop-place-preserved c =
    let place = c.loop-place.place in
    let slots = c.args.slots.now in
    let list = c.index-slots-place.result in
    let under = λ (s : List Slot). forms_under c.args.table.now c.args.definition.now s in
    let apart = λ (s : List Slot). are_apart (under s) in
    let within : place < length slots = omega arith in
    let forms : c.in_ok-forms.forms.items ≡ under list = c.in_ok-forms.ensures ∙ ap under c.slots.ensures in
    let cause : option_map reason_of c.in_ok-forms-2.cause ≡ reason_unless (apart list) NoTree =
    c.in_ok-forms-2.ensures.reason ∙ ap (λ fs. reason_unless (are_apart fs) NoTree) forms in
    record {
      forms = list_more (λ s. if_apart (under s)) slots place list c.loop-place.tables.items c.push.new.self.items c.in_ok-forms-2.forms within
          c.index-slots-place.is c.loop-place.invariant.forms c.in_ok-push.ensures.items (c.in_ok-forms-2.ensures.table ∙ ap (λ fs. if_apart fs) forms);
      reason = first_of (list_all apart (take place slots)) (apart list) (list_all apart (take (place + 1) slots)) NoTree
          (blamed_reason c.first_blame-blame.result) (blamed_reason c.loop-place.blame) (option_map reason_of c.in_ok-forms-2.cause)
          c.first_blame-blame.ensures.reason c.loop-place.invariant.reason cause (all_more apart slots place list within c.index-slots-place.is);
      element = c.first_blame-blame.ensures.element (length slots) c.loop-place.invariant.element within;
    }
