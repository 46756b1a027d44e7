use Rattle.std.proofs.Common.{◌≡◌, drop, map}
use Rattle.std.specs.List.{flat_map}
use Rattle.fhir_json.specs.Fields.{text_or_empty}
use Rattle.fhir_json.specs.Views.{trees_of}
use Rattle.fhir_reach.specs.Keys.{with_keys}
use Rattle.fhir_reach.specs.Naming.{canonical_keys}
use Rattle.fhir_reach.proofs.naming.add_canonicals.Given as goal

abbrev pub invariant-loop-text : goal.invariant-loop-text
invariant-loop-text l = with_keys l.found (flat_map canonical_keys (map text_or_empty (trees_of (drop l.text-index l.texts)))) ≡ with_keys l.fn.found (flat_map canonical_keys (map text_or_empty (trees_of l.texts)))
