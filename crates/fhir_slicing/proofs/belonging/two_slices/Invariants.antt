use Rattle.std.proofs.Common.{◌≡◌, drop}
use Rattle.std.specs.Option.{option_copied}
use Rattle.fhir_instance.specs.View.{item_of}
use Rattle.fhir_slicing.specs.Belonging.{is_in, two_slices}
use Rattle.fhir_slicing.proofs.Twos.{two_from}
use Rattle.fhir_slicing.proofs.belonging.two_slices.Given as goal

abbrev pub invariant-loop-slice : goal.invariant-loop-slice
invariant-loop-slice l =
    two_from (is_in l.schema l.node (item_of l.item)) (option_copied l.first) (drop l.slice-index l.slice-items) ≡ two_slices l.schema l.node (item_of l.item)
