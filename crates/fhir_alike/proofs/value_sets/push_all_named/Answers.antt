use Rattle.std.proofs.Common.{◌++◌, arith}
use Rattle.fhir_json.specs.Views.{trees_of}
use Rattle.fhir_alike.specs.ValueSets.{places_in}
use Rattle.fhir_alike.proofs.Kept.{places_turn}
use Rattle.fhir_alike.proofs.value_sets.push_all_named.Goals as goal

pub loop-include-preserved : goal.loop-include-preserved
loop-include-preserved c =
    places_turn c.args.old.now c.args.includes.now c.loop-include.include-index c.include-item.result c.loop-include.places.items
    c.push_named.new.places.items (c.args.places.now.items ++ places_in c.args.old.now (trees_of c.args.includes.now))
    (omega arith) c.include-item.is c.loop-include.invariant c.in_ok-push_named.ensures
