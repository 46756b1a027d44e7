use Rattle.std.specs.Prelude.{codes}
use Rattle.fhir_json.specs.Views.{tree_of}
use Rattle.fhir_reach.specs.Naming.{part_keys}
use Rattle.fhir_reach.proofs.Adding.{both_added}
use Rattle.fhir_reach.proofs.naming.add_parts.Goals as goal

pub returns : goal.returns
returns c =
    let t = tree_of c.args.definition.now in
    both_added c.add_part-2.result c.args.found.now c.add_part.new.found c.add_part-2.new.found
    (part_keys (codes "snapshot") t) (part_keys (codes "differential") t) c.in_ok-add_part.ensures c.add_part-2.ensures
