use Rattle.fhir_fp_eval.proofs.Filtering.{where_keeps, exists_any, all_each}
use Rattle.fhir_fp_eval.proofs.laws.criteria.Goals as goal

pub returns-clause-where_true : goal.returns-clause-where_true
returns-clause-where_true c = where_keeps

pub returns-clause-exists : goal.returns-clause-exists
returns-clause-exists c = exists_any

pub returns-clause-all : goal.returns-clause-all
returns-clause-all c = all_each
