use Rattle.std.proofs.Common.{List, refl}
use Rattle.std.specs.List.{flat_map}
use Rattle.fhir_json.specs.declared.json.Json.{Json}
use Rattle.fhir_json.specs.Views.{tree_of, trees_of}
use Rattle.fhir_reach.specs.Naming.{type_keys}
use Rattle.fhir_reach.proofs.Adding.{next}
use Rattle.fhir_reach.proofs.naming.add_types.Goals as goal

pub loop-entry-preserved : goal.loop-entry-preserved
loop-entry-preserved c =
    next (λ (xs : List Json). flat_map type_keys (trees_of xs)) (λ (x : Json). type_keys (tree_of x)) (λ x xs. refl) c.args.entries.now c.loop-entry.entry-index c.entry-item.result
    c.loop-entry.found c.add_type.new.found _ c.loop-entry-test.true c.entry-item.is c.in_ok-add_type.ensures c.loop-entry.invariant
