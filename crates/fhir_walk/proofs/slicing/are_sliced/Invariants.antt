use Rattle.std.proofs.Common.{◌≡◌, drop}
use Rattle.fhir_instance.specs.View.{item_of}
use Rattle.fhir_slicing.specs.Belonging.{is_sliced}
use Rattle.fhir_walk.proofs.Sliced.{pass_from}
use Rattle.fhir_walk.proofs.slicing.are_sliced.Given as goal

abbrev pub invariant-loop-kid : goal.invariant-loop-kid
invariant-loop-kid l =
    pass_from (item_of l.item) l.name (is_sliced l.schema l.node) l.kid-index (drop l.kid-index l.kid-items)
    ≡ pass_from (item_of l.item) l.name (is_sliced l.schema l.node) 0 l.kid-items
