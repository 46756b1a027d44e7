use Rattle.std.proofs.Common.{◌≡◌, ◌+◌, length}
use Rattle.fhir_json.specs.Views.{trees_of}
use Rattle.fhir_elements.specs.TypeEntry.{codes_differ}
use Rattle.fhir_elements.proofs.type_entry.repeated_of_few.Given as goal

abbrev pub invariant-loop-left : goal.invariant-loop-left
invariant-loop-left l = record {
  place : l.place + length l.left ≡ length l.items;
  differ : codes_differ (trees_of l.left) ≡ codes_differ (trees_of l.items);
}

abbrev pub decreases-loop-left : goal.decreases-loop-left
decreases-loop-left l = length l.left
