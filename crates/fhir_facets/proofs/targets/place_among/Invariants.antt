use Rattle.std.proofs.Common.{◌≡◌, drop, map, string_bytes}
use Rattle.std.specs.List.{list_any}
use Rattle.fhir_facets.specs.Targets.{target_narrower}
use Rattle.fhir_facets.proofs.targets.place_among.Given as goal

abbrev pub invariant-loop-base : goal.invariant-loop-base
invariant-loop-base l =
    list_any (target_narrower l.schema l.own) (map string_bytes (drop l.base-index l.bases))
    ≡ list_any (target_narrower l.schema l.own) (map string_bytes l.bases)
