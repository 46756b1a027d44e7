use Rattle.std.proofs.Common.{ap, ◌++◌, ◌∙◌}
use Rattle.fhir_instance.specs.View.{item_of}
use Rattle.fhir_conformance.specs.Standing.{found_asks}
use Rattle.fhir_conformance.specs.Views.{asks_seen}
use Rattle.fhir_conformance.proofs.Standing.{all_found}
use Rattle.fhir_conformance.proofs.sequence.put_children.Goals as goal

pub loop-place-init : goal.loop-place-init
loop-place-init c =
    let s = c.args.schema.now in
    let x = item_of c.args.item.now in
    ap (λ asks. asks_seen c.args.asked.now.items ++ asks)
    (ap (λ standing. found_asks s x c.args.node standing c.args.places.now) c.new-standing.ensures.items ∙ all_found s x c.args.node c.args.places.now)
