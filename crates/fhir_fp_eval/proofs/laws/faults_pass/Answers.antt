use Rattle.fhir_fp_eval.proofs.Faulty.{child_faulty, function_faulty, test_faulty, filter_faulty, left_faulty, right_faulty, asked_faulty}
use Rattle.fhir_fp_eval.proofs.laws.faults_pass.Goals as goal

pub returns-clause-left : goal.returns-clause-left
returns-clause-left c = left_faulty

pub returns-clause-right : goal.returns-clause-right
returns-clause-right c = right_faulty

pub returns-clause-asked : goal.returns-clause-asked
returns-clause-asked c = asked_faulty

pub returns-clause-child : goal.returns-clause-child
returns-clause-child c = child_faulty

pub returns-clause-function : goal.returns-clause-function
returns-clause-function c = function_faulty

pub returns-clause-test : goal.returns-clause-test
returns-clause-test c = test_faulty

pub returns-clause-filter : goal.returns-clause-filter
returns-clause-filter c = filter_faulty
