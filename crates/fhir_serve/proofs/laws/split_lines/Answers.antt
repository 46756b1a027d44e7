use Rattle.fhir_serve.proofs.LineLemmas.{lines_of-first, lines_of-last}
use Rattle.fhir_serve.proofs.laws.split_lines.Goals as goal

pub returns-clause-last : goal.returns-clause-last
returns-clause-last c = lines_of-last

pub returns-clause-first : goal.returns-clause-first
returns-clause-first c = lines_of-first
