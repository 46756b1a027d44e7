use Rattle.std.proofs.Common.{◌≡◌, ◌&&◌, true, is_some, is_none, length, nat_lt, ap, sym, ◌∙◌, arith}
use Rattle.std.specs.Option.{option_map}
use Rattle.std.specs.List.{list_all, flat_map}
use Rattle.std.proofs.lemmas.List.{length-map}
use Rattle.fhir_elements.specs.declared.reason.Reason.TheVariants.{UnsupportedSlicing}
use Rattle.fhir_elements.specs.Causes.{reason_of, reason_unless}
use Rattle.fhir_forms.specs.Slicings.{discriminators_of}
use Rattle.fhir_forms.specs.Criteria.{told_criteria, is_told, is_told_by}
use Rattle.fhir_forms.specs.CriteriaSeen.{criteria_seen, test_seen}
use Rattle.fhir_forms.proofs.Distinct.{none_told}
use Rattle.fhir_forms.proofs.criteria.told_by.Goals as goal

pub returns-then-is_some-clause-criteria : goal.returns-then-is_some-clause-criteria
returns-then-is_some-clause-criteria c =
    let slots = c.args.slots.now in
    let elements = c.args.elements.now in
    let sliced = c.args.sliced.now in
    let by = discriminators_of sliced in
    let untold = c.in_ok-criteria.untold in
    let there : is_some c.slicing_cause-cause.result ≡ true = grind arith in
    let count : length c.args.tests.now ≡ length by = sym (length-map c.args.tests.now test_seen) ∙ ap length c.requires in
    let all : is_none untold ≡ list_all (is_told slots elements c.args.place) by =
    c.in_ok-criteria.ensures.all ∙ ap (list_all (is_told slots elements c.args.place)) c.requires in
    let reason : option_map reason_of c.slicing_cause-cause.result ≡ reason_unless (is_told_by slots elements c.args.place sliced) UnsupportedSlicing =
    c.slicing_cause-cause.ensures ∙ ap (λ n. reason_unless (nat_lt 0 n && is_none untold) UnsupportedSlicing) count
    ∙ ap (λ b. reason_unless (nat_lt 0 (length by) && b) UnsupportedSlicing) all in
    ap criteria_seen c.new-criteria.ensures.items
    ∙ none_told (is_told_by slots elements c.args.place sliced) c.slicing_cause-cause.result UnsupportedSlicing (flat_map (told_criteria slots elements c.args.place) by)
    there reason
