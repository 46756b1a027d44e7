use Rattle.std.proofs.Common.{◌≡◌, ◌++◌, ◌-◌, ◌^◌, List, length, map, string_bytes, reverse}
use Rattle.fhir_asking.specs.Asking.{Holds}
use Rattle.fhir_elements.specs.Element.{Element}
use Rattle.fhir_inheritance.specs.Inheriting.{asking}
use Rattle.fhir_snapshot.specs.Order.{Lists}
use Rattle.fhir_snapshot.proofs.listing.list.Given as goal

abbrev pub invariant-loop-id : goal.invariant-loop-id
invariant-loop-id l = record {
  holds : Holds (asking l.sources) l.table;
  goes : (es : List Element) → Lists l.sources l.url es (reverse (map string_bytes l.left.items)) → Lists l.sources l.url (l.listed.items ++ es) (reverse (map string_bytes l.initial.left.items));
  only : (es : List Element) → Lists l.sources l.url es (reverse (map string_bytes l.initial.left.items)) → (rest : List Element) × (es ≡ l.listed.items ++ rest) × Lists l.sources l.url rest (reverse (map string_bytes l.left.items));
}

abbrev pub decreases-loop-id : goal.decreases-loop-id
decreases-loop-id l = 2 ^ 64 - length l.listed.items
