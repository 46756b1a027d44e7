use Rattle.std.proofs.Common.{ap, ◌∙◌, None}
use Rattle.fhir_schema.specs.Schemas.{slices}
use Rattle.fhir_instance.specs.View.{item_of}
use Rattle.fhir_slicing.specs.Belonging.{is_in}
use Rattle.fhir_slicing.proofs.Twos.{two_from, all_two}
use Rattle.fhir_slicing.proofs.belonging.two_slices.Goals as goal

pub loop-slice-init : goal.loop-slice-init
loop-slice-init c =
    let p = is_in c.args.schema.now c.args.node (item_of c.args.item.now) in
    ap (two_from p None) c.slices-slice-items.ensures ∙ all_two p (slices c.args.schema.now c.args.node)
