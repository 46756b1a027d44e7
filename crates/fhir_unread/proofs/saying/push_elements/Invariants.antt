use Rattle.std.proofs.Common.{◌≡◌, ◌++◌, drop}
use Rattle.std.specs.List.{flat_map}
use Rattle.fhir_json.specs.Views.{trees_of}
use Rattle.fhir_unread.specs.Sayings.{sayings_in}
use Rattle.fhir_unread.specs.Seen.{sayings_seen}
use Rattle.fhir_unread.proofs.saying.push_elements.Given as goal

abbrev pub invariant-loop-element : goal.invariant-loop-element
invariant-loop-element l =
    sayings_seen l.into.items ++ flat_map (sayings_in l.url) (trees_of (drop l.element-index l.elements))
    ≡ sayings_seen l.fn.into.items ++ flat_map (sayings_in l.url) (trees_of l.elements)
