use Rattle.std.proofs.Common.{◌++◌, take}
use Rattle.std.specs.List.{flat_map}
use Rattle.fhir_json.specs.Views.{trees_of}
use Rattle.fhir_plain.specs.Sayings.{constraints_of}
use Rattle.fhir_plain.proofs.Hearing.{more_elements}
use Rattle.fhir_plain.proofs.sayings.Maps.add_elements.Goals as goal

pub loop-element-preserved : goal.loop-element-preserved
loop-element-preserved c = λ before says.
    let loop = c.loop-element in
    let item = c.element-item in
    more_elements constraints_of c.add_constraints.new.self before c.args.elements.now loop.element-index item.result (trees_of c.items_in.result.now)
    c.loop-element-test.true item.is c.items_in.ensures
    (c.in_ok-add_constraints.ensures (before ++ flat_map constraints_of (trees_of (take loop.element-index c.args.elements.now))) (loop.invariant before says))
