use Rattle.std.proofs.Common.{string_bytes, is_some}
use Rattle.fhir_facets.specs.Targets.{target_narrower}
use Rattle.fhir_facets.proofs.Halves.{any_behind, any_before}
use Rattle.fhir_facets.proofs.targets.place_near.Goals as goal

pub returns-in-Some : goal.returns-in-Some
returns-in-Some c =
    any_behind (target_narrower c.args.schema.now c.args.own.now) string_bytes c.min.result c.args.bases.now c.split_at.result.1.now
    c.split_at.ensures.back c.in-Some.ensures

pub returns-in-None : goal.returns-in-None
returns-in-None c =
    any_before (target_narrower c.args.schema.now c.args.own.now) string_bytes c.min.result c.args.bases.now
    (is_some c.place_among-in-None.result) c.split_at.result.0.now c.split_at.result.1.now c.split_at.ensures.front c.split_at.ensures.back
    c.in-None.ensures c.place_among-in-None.ensures
