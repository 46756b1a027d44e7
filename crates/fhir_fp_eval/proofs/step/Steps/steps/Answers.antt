use Rattle.std.proofs.lemmas.List.{take_rest}
use Rattle.fhir_fp_eval.proofs.step.Steps.steps.Goals as goal

pub returns : goal.returns
returns c = let s = c.args.self.now in let rest = take_rest s.steps s.first in let five = s.five in cc
