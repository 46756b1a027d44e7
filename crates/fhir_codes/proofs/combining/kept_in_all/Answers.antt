use Rattle.std.proofs.Common.{◌<◌, length, arith}
use Rattle.std.specs.List.{list_all}
use Rattle.std.specs.FinSet as set
use Rattle.fhir_codes.proofs.Looping.{keep_more}
use Rattle.fhir_codes.proofs.combining.kept_in_all.Goals as goal

pub loop-concept-preserved : goal.loop-concept-preserved
loop-concept-preserved c =
    let within : c.loop-concept.concept-index < length c.args.concepts.now = omega arith in
    keep_more (λ x. list_all (λ s. set.contains s x) c.args.sets.now) c.args.concepts.now c.loop-concept.kept.items _ c.loop-concept.concept-index c.concept-item.result c.have_all-is_kept.result within c.concept-item.is c.have_all-is_kept.ensures c.in_ok-put_if.ensures c.loop-concept.invariant
