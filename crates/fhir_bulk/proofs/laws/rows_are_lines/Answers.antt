use Rattle.fhir_bulk.proofs.Clean.{rows_clean}
use Rattle.fhir_bulk.proofs.laws.rows_are_lines.Goals as goal

pub returns : goal.returns
returns c = rows_clean c.escaped_texts.ensures.text c.escaped_texts.ensures.clean
