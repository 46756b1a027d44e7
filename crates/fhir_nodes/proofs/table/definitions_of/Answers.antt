use Rattle.std.proofs.Common.{sym}
use Rattle.fhir_json.specs.Views.{tree_of}
use Rattle.fhir_definition.specs.Definition.{definitions_from}
use Rattle.fhir_nodes.proofs.Reading.{definitions_more}
use Rattle.fhir_nodes.proofs.table.definitions_of.Goals as goal

pub loop-place-preserved : goal.loop-place-preserved
loop-place-preserved c =
    let es = c.args.from.now.structure_definitions in
    definitions_more c.push.new.self.items c.loop-place.definitions.items c.loop-place.place es c.in-Some.url.now
    (tree_of c.in-Some.json.now) c.in_ok-definition.definition (definitions_from 0 es) c.in_ok-push.ensures.items
    (sym c.in-Some.ensures) c.in_ok-definition.ensures c.loop-place.invariant
