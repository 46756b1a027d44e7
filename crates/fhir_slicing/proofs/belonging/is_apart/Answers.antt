use Rattle.std.proofs.Common.{rules, ◌≡◌, ◌∙◌, is_none}
use Rattle.fhir_schema.specs.Schemas.{slices}
use Rattle.fhir_instance.specs.View.{item_of}
use Rattle.fhir_slicing.specs.Belonging.{is_in, two_slices}
use Rattle.fhir_slicing.proofs.Twos.{no_two}
use Rattle.fhir_slicing.proofs.belonging.is_apart.Goals as goal

pub returns : goal.returns
returns c =
    let s = c.args.schema.now in
    let n = c.args.node in
    let x = item_of c.args.item.now in
    let none : c.is_none.result ≡ is_none (two_slices s n x) = search rules in
    none ∙ no_two (is_in s n x) (slices s n)
