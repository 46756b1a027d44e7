use Rattle.std.proofs.Common.{Bool}
use Rattle.fhir_json.specs.Tree.{Text}
use Rattle.fhir_targets.specs.Chains.{code_at, AreReaching, IsReaching}
use Rattle.fhir_targets.proofs.chains.put_chain.Given as goal

abbrev pub invariant-loop-step : goal.invariant-loop-step
invariant-loop-step l =
    (codes : Text → Bool) → AreReaching l.schema.definitions codes (code_at l.fn.places) → IsReaching l.schema.definitions codes l.start l.code
    → AreReaching l.schema.definitions codes (code_at l.places) × IsReaching l.schema.definitions codes l.place l.code
