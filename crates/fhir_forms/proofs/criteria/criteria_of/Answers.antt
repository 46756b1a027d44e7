use Rattle.std.proofs.Common.{◌≡◌, ◌+◌, ◌<◌, [], true, length, refl, ap, ◌∙◌, arith}
use Rattle.std.specs.Option.{option_map, option_map_or}
use Rattle.std.specs.List.{list_all, range_with_len}
use Rattle.fhir_elements.specs.declared.reason.Reason.TheVariants.{UnsupportedSlicing}
use Rattle.fhir_elements.specs.Causes.{reason_of, blamed_reason, reason_unless}
use Rattle.fhir_forms.specs.Criteria.{criteria_by, is_told_by, sliced_at, criteria_in, is_told_apart}
use Rattle.fhir_forms.specs.CriteriaSeen.{criteria_seen}
use Rattle.fhir_forms.proofs.Told.{one_more_place, all_more_places}
use Rattle.fhir_forms.proofs.Blamed.{first_of}
use Rattle.fhir_forms.proofs.criteria.criteria_of.Goals as goal

pub loop-place-preserved : goal.loop-place-preserved
loop-place-preserved c =
    let slots = c.requires in
    let place = c.loop-place.place in
    let elements = c.args.definition.now.elements in
    let is_told = is_told_apart c.args.table.now c.args.definition.now in
    let within : place < length elements = grind arith in
    let told : criteria_seen c.in_ok-told.told.criteria.items ≡ criteria_in c.args.table.now c.args.definition.now place =
    c.in_ok-told.ensures.criteria ∙ ap (λ l. option_map_or (criteria_by l elements place) (sliced_at elements place) []) slots in
    let cause : option_map reason_of c.in_ok-told.told.cause ≡ reason_unless (is_told place) UnsupportedSlicing =
    c.in_ok-told.ensures.reason ∙ ap (λ l. reason_unless (option_map_or (is_told_by l elements place) (sliced_at elements place) true) UnsupportedSlicing) slots in
    record {
      criteria = one_more_place (λ v. criteria_seen v.items) (criteria_in c.args.table.now c.args.definition.now) c.loop-place.lists.items c.push.new.self.items
          place c.in_ok-told.told.criteria c.in_ok-push.ensures.items told c.loop-place.invariant.criteria;
      reason = first_of (list_all is_told (range_with_len 0 place)) (is_told place) (list_all is_told (range_with_len 0 (place + 1))) UnsupportedSlicing
          (blamed_reason c.first_blame-blame.result) (blamed_reason c.loop-place.blame) (option_map reason_of c.in_ok-told.told.cause)
          c.first_blame-blame.ensures.reason c.loop-place.invariant.reason cause (all_more_places is_told place _ _ refl refl);
      element = c.first_blame-blame.ensures.element (length elements) c.loop-place.invariant.element within;
    }
