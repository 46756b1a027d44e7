use Rattle.std.proofs.Common.{◌≡◌, drop}
use Rattle.fhir_facets.specs.Order.{is_new, is_kept, has_named, new_come_last}
use Rattle.fhir_facets.proofs.Sequences.{goes_behind}
use Rattle.fhir_facets.proofs.order.new_come_last.Given as goal

abbrev pub invariant-loop-slice : goal.invariant-loop-slice
invariant-loop-slice l =
    goes_behind (is_new (has_named l.schema l.m) l.schema l.n) (is_kept (has_named l.schema l.m) l.schema l.n) l.after_new (drop l.slice-index l.slice-items)
    ≡ new_come_last (has_named l.schema l.m) l.schema l.n
