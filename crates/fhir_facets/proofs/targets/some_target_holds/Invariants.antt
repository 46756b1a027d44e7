use Rattle.std.proofs.Common.{◌≡◌, ◌||◌, drop, map, string_bytes}
use Rattle.std.specs.List.{list_any, flat_map}
use Rattle.fhir_facets.specs.Carried.{target_unread}
use Rattle.fhir_facets.specs.Targets.{target_holds}
use Rattle.fhir_facets.specs.Unread.{Reading, meaning_of}
use Rattle.fhir_facets.specs.Views.{holding_at, IsVouched, IsCarried}
use Rattle.fhir_facets.proofs.targets.some_target_holds.Given as goal

abbrev pub invariant-loop-target : goal.invariant-loop-target
invariant-loop-target l = record {
  exact : (r : Reading)
      → (holding_at r l.found || list_any (target_holds l.schema (meaning_of l.given r) l.type_name) (map string_bytes (drop l.target-index l.targets)))
      ≡ list_any (target_holds l.schema (meaning_of l.given r) l.type_name) (map string_bytes l.targets);
  vouched : IsVouched l.given l.found;
  carried : IsCarried (flat_map (target_unread l.schema) (map string_bytes l.targets)) l.found;
}
