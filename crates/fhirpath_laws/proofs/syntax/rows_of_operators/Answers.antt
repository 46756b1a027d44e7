use Rattle.fhirpath_laws.proofs.Rows.{by_row}
use Rattle.fhirpath_laws.proofs.syntax.rows_of_operators.Goals as goal

pub returns-clause-between : goal.returns-clause-between
returns-clause-between c = by_row
