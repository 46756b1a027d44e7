use Rattle.std.proofs.Common.{◌≡◌, ◌+◌, ◌*◌, take, IsTrue}
use Rattle.std.specs.List.{list_all}
use Rattle.fhir_conformance.specs.Views.{ask_seen}
use Rattle.fhir_conformance.specs.Conformance.{Interpretation, Around, ask_conforms, conforms}
use Rattle.fhir_validator.specs.Layouts.{item_at}
use Rattle.fhir_validator.specs.Judging.{IsThere}
use Rattle.fhir_validator.specs.Listing.{Leaves, MarksAreTold, Grown}
use Rattle.fhir_validator.proofs.Measures.{weight}
use Rattle.fhir_validator.proofs.judging.Judge.+explaining.Given as goal

abbrev pub decreases-list_same : goal.decreases-list_same
decreases-list_same l = 9 * weight l.self.now l.pair + 8

abbrev pub decreases-list_pair : goal.decreases-list_pair
decreases-list_pair l = 9 * weight l.self.now l.pair + 7

abbrev pub decreases-list_asks : goal.decreases-list_asks
decreases-list_asks l = 9 * weight l.self.now l.pair + 6

abbrev pub decreases-list_ask : goal.decreases-list_ask
decreases-list_ask l = 9 * weight l.self.now l.pair + 5

abbrev pub decreases-list_types : goal.decreases-list_types
decreases-list_types l = 9 * weight l.self.now l.pair + 4

abbrev pub decreases-list_hanging : goal.decreases-list_hanging
decreases-list_hanging l = 9 * weight l.self.now l.pair + 3

abbrev pub decreases-list_root : goal.decreases-list_root
decreases-list_root l = 9 * weight l.self.now l.pair + 2

abbrev pub decreases-list_profile : goal.decreases-list_profile
decreases-list_profile l = 9 * weight l.self.now l.pair + 1

abbrev pub decreases-list_kid : goal.decreases-list_kid
decreases-list_kid l = 9 * weight l.self.now l.pair

abbrev pub invariant-list_asks-loop-ask : goal.invariant-list_asks-loop-ask
invariant-list_asks-loop-ask l = record {
  same : l.self ≡ l.fn.self;
  grown : Grown l.fn.self l.pair l.fn.listing l.listing;
  told : MarksAreTold l.fn.self l.fn.listing → (meaning : Interpretation) → Leaves l.fn.self l.listing meaning → (around : Around) → IsThere l.fn.self l.pair.item around
      → IsTrue (list_all (λ ask. ask_conforms l.fn.self.schema meaning around (item_at l.fn.self l.pair.item) (ask_seen ask)) (take l.ask-index l.ask-items));
}

abbrev pub invariant-list_hanging-loop-root : goal.invariant-list_hanging-loop-root
invariant-list_hanging-loop-root l = record {
  same : l.self ≡ l.fn.self;
  grown : Grown l.fn.self l.pair l.initial.listing l.listing;
  told : MarksAreTold l.fn.self l.initial.listing → (meaning : Interpretation) → Leaves l.fn.self l.listing meaning → (around : Around) → IsThere l.fn.self l.pair.item around
      → IsTrue (list_all (conforms l.fn.self.schema meaning around (item_at l.fn.self l.pair.item)) (take l.root-index l.root-items));
}
