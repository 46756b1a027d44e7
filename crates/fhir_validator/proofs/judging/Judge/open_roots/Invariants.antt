use Rattle.std.proofs.Common.{[], take, ◌≡◌}
use Rattle.std.specs.List.{list_any}
use Rattle.fhir_conformance.specs.Conformance.{entry_holds}
use Rattle.fhir_validator.specs.Layouts.{item_at}
use Rattle.fhir_validator.specs.Listing.{Settles}
use Rattle.fhir_validator.proofs.judging.Judge.open_roots.Given as goal

abbrev pub invariant-loop-entry : goal.invariant-loop-entry
invariant-loop-entry l = record {
  same : l.self ≡ l.fn.self;
  settles : Settles l.fn.self l.pair
      (λ m f. list_any (entry_holds l.fn.self.schema m f (item_at l.fn.self l.pair.item)) (take l.entry-index l.entries)) l.fn.listing l.listing [] l.roots.items;
}
