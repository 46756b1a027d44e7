use Rattle.std.proofs.Common.{◌≡◌, length, drop, ◌+◌, ◌≤◌}
use Rattle.fhir_instance.specs.Items.{kids_in}
use Rattle.fhir_instance.specs.View.{named_in}
use Rattle.fhir_conformance.specs.Asks.{places_from}
use Rattle.fhir_walk.proofs.children.count_named.Given as goal

abbrev pub invariant-loop-kid : goal.invariant-loop-kid
invariant-loop-kid l = record {
  counted : l.count + length (places_from l.kid-index l.name (kids_in (named_in (drop l.kid-index l.kids)))) ≡ length (places_from 0 l.name (kids_in (named_in l.kids)));
  bounded : l.count ≤ l.kid-index;
}
