use Rattle.std.proofs.Common.{◌≡◌, drop, map}
use Rattle.std.specs.Prelude.{string_bytes}
use Rattle.std.specs.List.{list_any}
use Rattle.fhir_definition.specs.Contained.{is_contained}
use Rattle.fhir_definition.proofs.contained.has_contained.Given as goal

abbrev pub invariant-loop-canonical : goal.invariant-loop-canonical
invariant-loop-canonical l = list_any is_contained (map string_bytes (drop l.canonical-index l.canonicals)) ≡ list_any is_contained (map string_bytes l.canonicals)
