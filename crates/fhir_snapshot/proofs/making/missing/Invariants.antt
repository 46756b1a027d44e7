use Rattle.std.proofs.Common.{drop}
use Rattle.fhir_asking.specs.Asking.{Holds}
use Rattle.fhir_inheritance.specs.Inheriting.{asking}
use Rattle.fhir_snapshot.specs.Order.{AreThere}
use Rattle.fhir_snapshot.proofs.making.missing.Given as goal

abbrev pub invariant-loop-element : goal.invariant-loop-element
invariant-loop-element l = record {
  holds : Holds (asking l.sources) l.table;
  back : AreThere l.sources l.url (drop l.element-index l.elements) → AreThere l.sources l.url l.elements;
  forth : AreThere l.sources l.url l.elements → AreThere l.sources l.url (drop l.element-index l.elements);
}
