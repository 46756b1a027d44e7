use Rattle.std.proofs.Common.{◌≡◌, ◌++◌, drop}
use Rattle.std.specs.List.{flat_map}
use Rattle.fhir_cert_check.specs.Asked.{entry_kids_asked}
use Rattle.fhir_cert_check.proofs.asked.put_children.Given as goal

abbrev pub invariant-loop-entry : goal.invariant-loop-entry
invariant-loop-entry l =
    l.asked.items ++ flat_map (entry_kids_asked l.schema l.base) (drop l.entry-index l.entry-items)
    ≡ l.initial.asked.items ++ flat_map (entry_kids_asked l.schema l.base) l.entry-items
