use Rattle.answer_laws.proofs.Told.{alone_told, own_told}
use Rattle.answer_laws.proofs.runs.resources_in_runs.Goals as goal

pub returns-clause-one : goal.returns-clause-one
returns-clause-one c standing = alone_told standing

pub returns-clause-own : goal.returns-clause-own
returns-clause-own c standings = own_told standings
