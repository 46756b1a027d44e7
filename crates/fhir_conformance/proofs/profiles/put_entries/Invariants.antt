use Rattle.std.proofs.Common.{◌≡◌, ◌++◌, map, drop}
use Rattle.std.specs.List.{flat_map}
use Rattle.fhir_instance.specs.View.{item_of}
use Rattle.fhir_conformance.specs.Asks.{profile, entry_roots}
use Rattle.fhir_conformance.specs.Views.{asks_seen}
use Rattle.fhir_conformance.proofs.profiles.put_entries.Given as goal

abbrev pub invariant-loop-entry : goal.invariant-loop-entry
invariant-loop-entry l =
    asks_seen l.asked.items ++ map profile (flat_map (entry_roots l.schema (item_of l.item)) (drop l.entry-index l.entries))
    ≡ asks_seen l.initial.asked.items ++ map profile (flat_map (entry_roots l.schema (item_of l.item)) l.entries)
