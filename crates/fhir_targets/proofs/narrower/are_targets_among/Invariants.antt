use Rattle.std.proofs.Common.{◌≡◌, drop, map, string_bytes}
use Rattle.std.specs.List.{list_all, list_any}
use Rattle.fhir_facets.specs.Targets.{target_narrower}
use Rattle.fhir_targets.specs.Base.{AreOf}
use Rattle.fhir_targets.proofs.narrower.are_targets_among.Given as goal

abbrev pub invariant-loop-own : goal.invariant-loop-own
invariant-loop-own l = record {
  base : AreOf l.schema (map string_bytes l.bases) l.base;
  rest : list_all (λ t. list_any (target_narrower l.schema t) (map string_bytes l.bases)) (map string_bytes (drop l.own-index l.owns))
      ≡ list_all (λ t. list_any (target_narrower l.schema t) (map string_bytes l.bases)) (map string_bytes l.owns);
}
