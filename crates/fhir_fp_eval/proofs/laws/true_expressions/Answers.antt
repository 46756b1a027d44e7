use Rattle.fhir_fp_eval.proofs.Faulty.{both_true, nothing_untrue, fault_untrue}
use Rattle.fhir_fp_eval.proofs.laws.true_expressions.Goals as goal

pub returns-clause-both : goal.returns-clause-both
returns-clause-both c = both_true

pub returns-clause-nothing : goal.returns-clause-nothing
returns-clause-nothing c = nothing_untrue

pub returns-clause-fault : goal.returns-clause-fault
returns-clause-fault c = fault_untrue
