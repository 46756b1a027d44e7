use Rattle.std.proofs.Common.{◌≡◌, drop}
use Rattle.std.specs.List.{find}
use Rattle.fhir_instance.specs.View.{item_of}
use Rattle.fhir_slicing.specs.Belonging.{is_in, slice_of}
use Rattle.fhir_slicing.proofs.belonging.slice_of.Given as goal

abbrev pub invariant-loop-slice : goal.invariant-loop-slice
invariant-loop-slice l =
    find (is_in l.schema l.node (item_of l.item)) (drop l.slice-index l.slice-items) ≡ slice_of l.schema l.node (item_of l.item)
