-- What is below an item, by its children.
use Rattle.std.proofs.Common.{◌≡◌, refl}
use Rattle.fhir_instance.specs.Items.{Item, item, kids_of}
use Rattle.fhir_fp_eval.specs.Meaning.{descendants, descendants_in}

pub descendants_out : (x : Item) → descendants x ≡ descendants_in (kids_of x)
descendants_out (item type json ks) = refl
