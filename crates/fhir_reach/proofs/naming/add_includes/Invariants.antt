use Rattle.std.proofs.Common.{◌≡◌, drop}
use Rattle.std.specs.List.{flat_map}
use Rattle.fhir_json.specs.Views.{trees_of}
use Rattle.fhir_reach.specs.Keys.{with_keys}
use Rattle.fhir_reach.specs.Naming.{include_keys}
use Rattle.fhir_reach.proofs.naming.add_includes.Given as goal

abbrev pub invariant-loop-include : goal.invariant-loop-include
invariant-loop-include l = with_keys l.found (flat_map include_keys (trees_of (drop l.include-index l.includes))) ≡ with_keys l.fn.found (flat_map include_keys (trees_of l.includes))
