use Rattle.std.proofs.Common.{◌≡◌, drop}
use Rattle.std.specs.List.{flat_map}
use Rattle.fhir_json.specs.Views.{trees_of}
use Rattle.fhir_reach.specs.Keys.{with_keys}
use Rattle.fhir_reach.specs.Naming.{type_keys}
use Rattle.fhir_reach.proofs.naming.add_types.Given as goal

abbrev pub invariant-loop-entry : goal.invariant-loop-entry
invariant-loop-entry l = with_keys l.found (flat_map type_keys (trees_of (drop l.entry-index l.entries))) ≡ with_keys l.fn.found (flat_map type_keys (trees_of l.entries))
