use Rattle.std.proofs.Common.{◌++◌, take}
use Rattle.fhir_json.specs.Views.{tree_of, trees_of}
use Rattle.fhir_plain.proofs.Hearing.{said_more, more_constraints}
use Rattle.fhir_plain.proofs.sayings.Maps.add_constraints.Goals as goal

pub loop-constraint-preserved : goal.loop-constraint-preserved
loop-constraint-preserved c = λ before says.
    let loop = c.loop-constraint in
    let item = c.constraint-item in
    more_constraints c.add.new.self before c.args.constraints.now loop.constraint-index item.result c.loop-constraint-test.true item.is
    (said_more loop.self c.add.new.self (before ++ trees_of (take loop.constraint-index c.args.constraints.now)) (tree_of item.result)
    c.in_ok-add.ensures (loop.invariant before says))
