use Rattle.std.proofs.lemmas.Result.{IfOk-weaker}
use Rattle.fhir_positions.proofs.values.Values.list.Goals as goal

pub returns-in-Settles-clause-stand : goal.returns-in-Settles-clause-stand
returns-in-Settles-clause-stand c = IfOk-weaker c.settle.result _ _ (λ u h. λ bytes there. h bytes) c.settle.ensures.stand
