use Rattle.std.proofs.Common.{◌≡◌, ◌++◌, drop}
use Rattle.std.specs.List.{flat_map}
use Rattle.fhir_schema.specs.Schemas.{types}
use Rattle.fhir_cert_check.specs.Asked.{entry_asked}
use Rattle.fhir_cert_check.proofs.asked.put_types.Given as goal

abbrev pub invariant-loop-entry : goal.invariant-loop-entry
invariant-loop-entry l =
    l.asked.items ++ flat_map (entry_asked l.schema (types l.schema l.nodes.base)) (drop l.entry-index l.entry-items)
    ≡ l.initial.asked.items ++ flat_map (entry_asked l.schema (types l.schema l.nodes.base)) l.entry-items
