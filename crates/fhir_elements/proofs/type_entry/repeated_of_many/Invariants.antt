use Rattle.std.proofs.Common.{◌≡◌, ◌≤◌, length, drop, true}
use Rattle.fhir_json.specs.Views.{trees_of}
use Rattle.fhir_elements.specs.TypeEntry.{codes_differ}
use Rattle.fhir_elements.specs.CodesSeen.{HaveCodes}
use Rattle.fhir_elements.proofs.type_entry.repeated_of_many.Given as goal

abbrev pub invariant-loop-i : goal.invariant-loop-i
invariant-loop-i l = record {
  within : l.i ≤ length l.items;
  differ : codes_differ (trees_of (drop l.i l.items)) ≡ true;
  seen : HaveCodes l.seen (trees_of (drop l.i l.items));
}

abbrev pub decreases-loop-i : goal.decreases-loop-i
decreases-loop-i l = l.i
