use Rattle.std.proofs.Common.{codes, ◌++◌}
use Rattle.std.specs.List.{flat_map}
use Rattle.fhir_json.specs.Views.{tree_of, trees_of}
use Rattle.fhir_plain.specs.Sayings.{elements_in, constraints_of}
use Rattle.fhir_plain.proofs.Hearing.{both_said}
use Rattle.fhir_plain.proofs.sayings.Maps.add_definition.Goals as goal

pub returns : goal.returns
returns c = λ before says.
    let t = tree_of c.args.definition.now in
    let more = trees_of c.elements_in.result.now in
    let others = trees_of c.elements_in-2.result.now in
    both_said constraints_of c.add_elements-2.new.self before more others (elements_in (codes "snapshot") t) (elements_in (codes "differential") t)
    c.elements_in.ensures c.elements_in-2.ensures
    (c.in_ok-add_elements-2.ensures (before ++ flat_map constraints_of more) (c.in_ok-add_elements.ensures before says))
