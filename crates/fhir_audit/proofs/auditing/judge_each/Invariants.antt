use Rattle.std.proofs.Common.{List, ◌++◌, drop}
use Rattle.std.specs.Option.{option_map}
use Rattle.fhir_audit.specs.Auditing.{AuditedValue, AreAudited}
use Rattle.fhir_audit.specs.Placing.{all_placed}
use Rattle.fhir_audit.specs.Views.{all_audited}
use Rattle.fhir_audit.proofs.auditing.judge_each.Given as goal

abbrev pub invariant-loop-place : goal.invariant-loop-place
invariant-loop-place g l =
    (rest : List AuditedValue) → AreAudited (option_map (λ t. t.now) l.given) l.schema l.survey (all_placed (drop l.place l.profiles)) rest
    → AreAudited (option_map (λ t. t.now) l.given) l.schema l.survey (all_placed l.profiles) (all_audited l.all.items ++ rest)
