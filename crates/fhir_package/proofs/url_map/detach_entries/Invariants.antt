use Rattle.std.proofs.Common.{◌≡◌, take}
use Rattle.fhir_package.specs.View.{entries_seen}
use Rattle.fhir_package.proofs.url_map.detach_entries.Given as goal

abbrev pub invariant-loop-entry : goal.invariant-loop-entry
invariant-loop-entry l = l.all ≡ entries_seen (take l.entry-index l.entries)
