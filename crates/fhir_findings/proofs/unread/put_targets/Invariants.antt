use Rattle.std.proofs.Common.{◌≡◌, ◌++◌, map, drop}
use Rattle.std.specs.Prelude.{string_bytes}
use Rattle.std.specs.List.{flat_map}
use Rattle.fhir_facets.specs.Views.{unread_seen}
use Rattle.fhir_facets.specs.Carried.{target_unread}
use Rattle.fhir_findings.proofs.unread.put_targets.Given as goal

abbrev pub invariant-loop-target : goal.invariant-loop-target
invariant-loop-target l =
    map unread_seen l.into.items ++ flat_map (target_unread l.schema) (map string_bytes (drop l.target-index l.targets))
    ≡ map unread_seen l.fn.into.items ++ flat_map (target_unread l.schema) (map string_bytes l.targets)
