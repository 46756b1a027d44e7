use Rattle.std.proofs.Common.{List, refl}
use Rattle.std.specs.List.{flat_map}
use Rattle.fhir_json.specs.declared.json.Json.{Json}
use Rattle.fhir_json.specs.Views.{tree_of, trees_of}
use Rattle.fhir_reach.specs.Naming.{include_keys}
use Rattle.fhir_reach.proofs.Adding.{next}
use Rattle.fhir_reach.proofs.naming.add_includes.Goals as goal

pub loop-include-preserved : goal.loop-include-preserved
loop-include-preserved c =
    next (λ (xs : List Json). flat_map include_keys (trees_of xs)) (λ (x : Json). include_keys (tree_of x)) (λ x xs. refl) c.args.includes.now c.loop-include.include-index c.include-item.result
    c.loop-include.found c.add_include.new.found _ c.loop-include-test.true c.include-item.is c.in_ok-add_include.ensures c.loop-include.invariant
