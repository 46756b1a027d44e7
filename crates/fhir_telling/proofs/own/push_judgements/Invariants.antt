use Rattle.std.proofs.Common.{drop}
use Rattle.fhir_telling.specs.Questions.{question_seen}
use Rattle.fhir_telling.proofs.Pushed.{Leads}
use Rattle.fhir_telling.proofs.own.push_judgements.Given as goal

abbrev pub invariant-loop-profile : goal.invariant-loop-profile
invariant-loop-profile l = Leads (question_seen l.fn.question) l.bytes l.profiles (drop l.profile-index l.profiles) l.fn.into.items l.into.items
