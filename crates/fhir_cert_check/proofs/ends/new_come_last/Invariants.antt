use Rattle.std.proofs.Common.{◌≡◌, drop}
use Rattle.fhir_facets.specs.Order.{is_new, is_kept, new_come_last}
use Rattle.fhir_facets.proofs.Sequences.{goes_behind}
use Rattle.fhir_cert_check.specs.Rules.{is_shared}
use Rattle.fhir_cert_check.proofs.ends.new_come_last.Given as goal

abbrev pub invariant-loop-own : goal.invariant-loop-own
invariant-loop-own l =
    goes_behind (is_new (is_shared l.schema l.n l.m) l.schema l.n) (is_kept (is_shared l.schema l.n l.m) l.schema l.n) l.after_new (drop l.own-index l.own-items)
    ≡ new_come_last (is_shared l.schema l.n l.m) l.schema l.n
