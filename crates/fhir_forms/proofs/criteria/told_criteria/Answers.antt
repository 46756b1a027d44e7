use Rattle.std.proofs.Common.{◌≡◌, false, is_some, arith}
use Rattle.std.specs.Option.{option_map}
use Rattle.fhir_forms.specs.CriteriaSeen.{criterion_seen}
use Rattle.fhir_forms.proofs.Distinct.{not_all_told}
use Rattle.fhir_forms.proofs.criteria.told_criteria.Goals as goal

pub returns-in_default-clause-all : goal.returns-in_default-clause-all
returns-in_default-clause-all c =
    let none : is_some (option_map criterion_seen c.in_ok-criterion.field-0) ≡ false = grind arith in
    not_all_told c.args.slots.now c.args.elements.now c.args.place c.args.tests.now c.loop-test.test-index _
    (option_map criterion_seen c.in_ok-criterion.field-0) (omega arith) c.in_ok-criterion.ensures none
