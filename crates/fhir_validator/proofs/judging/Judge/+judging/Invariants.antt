use Rattle.std.proofs.Common.{◌≡◌, ◌+◌, ◌*◌, take, string_bytes}
use Rattle.std.specs.List.{list_all, list_any}
use Rattle.fhir_facets.specs.Unread.{Reading, meaning_of}
use Rattle.fhir_conformance.specs.Views.{ask_seen}
use Rattle.fhir_conformance.specs.Conformance.{Around, as_read, conforms, entry_holds, profile_holds, ask_conforms}
use Rattle.fhir_validator.specs.Judgements.{under}
use Rattle.fhir_validator.specs.Layouts.{item_at}
use Rattle.fhir_validator.specs.Judging.{IsThere}
use Rattle.fhir_validator.proofs.Measures.{weight}
use Rattle.fhir_validator.proofs.judging.Judge.+judging.Given as goal

abbrev pub decreases-judgement_of : goal.decreases-judgement_of
decreases-judgement_of l = 8 * weight l.self.now l.pair + 7

abbrev pub decreases-judge_pair : goal.decreases-judge_pair
decreases-judge_pair l = 8 * weight l.self.now l.pair + 6

abbrev pub decreases-ask_judgement : goal.decreases-ask_judgement
decreases-ask_judgement l = 8 * weight l.self.now l.pair + 5

abbrev pub decreases-types_judgement : goal.decreases-types_judgement
decreases-types_judgement l = 8 * weight l.self.now l.pair + 4

abbrev pub decreases-entry_judgement : goal.decreases-entry_judgement
decreases-entry_judgement l = 8 * weight l.self.now l.pair + 3

abbrev pub decreases-profiles_judgement : goal.decreases-profiles_judgement
decreases-profiles_judgement l = 8 * weight l.self.now l.pair + 2

abbrev pub decreases-profile_judgement : goal.decreases-profile_judgement
decreases-profile_judgement l = 8 * weight l.self.now l.pair + 1

abbrev pub decreases-kid_judgement : goal.decreases-kid_judgement
decreases-kid_judgement l = 8 * weight l.self.now l.pair

abbrev pub invariant-judge_pair-loop-ask : goal.invariant-judge_pair-loop-ask
invariant-judge_pair-loop-ask l = record {
  judgement : (r : Reading) (around : Around) → IsThere l.fn.self l.pair.item around
      → under r l.judgement ≡ list_all (λ ask. ask_conforms l.fn.self.schema (as_read l.fn.self.given r) around (item_at l.fn.self l.pair.item) (ask_seen ask)) (take l.ask-index l.ask-items);
  same : l.self ≡ l.fn.self;
}

abbrev pub invariant-types_judgement-loop-entry : goal.invariant-types_judgement-loop-entry
invariant-types_judgement-loop-entry l = record {
  judgement : (r : Reading) (around : Around) → IsThere l.fn.self l.pair.item around
      → under r l.judgement ≡ list_any (entry_holds l.fn.self.schema (meaning_of l.fn.self.given r) (conforms l.fn.self.schema (as_read l.fn.self.given r) around (item_at l.fn.self l.pair.item)) (item_at l.fn.self l.pair.item)) (take l.entry-index l.entries);
  same : l.self ≡ l.fn.self;
}

abbrev pub invariant-profiles_judgement-loop-profile : goal.invariant-profiles_judgement-loop-profile
invariant-profiles_judgement-loop-profile l = record {
  judgement : (r : Reading) (around : Around) → IsThere l.fn.self l.pair.item around
      → under r l.judgement ≡ list_any (λ profile. profile_holds l.fn.self.schema (meaning_of l.fn.self.given r) (conforms l.fn.self.schema (as_read l.fn.self.given r) around (item_at l.fn.self l.pair.item)) (item_at l.fn.self l.pair.item) (string_bytes profile)) (take l.profile-index l.profiles);
  same : l.self ≡ l.fn.self;
}
