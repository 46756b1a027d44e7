use Rattle.std.proofs.Common.{◌≡◌, ◌++◌, map, drop}
use Rattle.std.specs.List.{flat_map}
use Rattle.fhir_facets.specs.Views.{unread_seen}
use Rattle.fhir_findings.specs.Undecided.{entry_rules}
use Rattle.fhir_findings.proofs.unread.put_types.Given as goal

abbrev pub invariant-loop-entry : goal.invariant-loop-entry
invariant-loop-entry l =
    map unread_seen l.into.items ++ flat_map (entry_rules l.schema) (drop l.entry-index l.entries)
    ≡ map unread_seen l.fn.into.items ++ flat_map (entry_rules l.schema) l.entries
