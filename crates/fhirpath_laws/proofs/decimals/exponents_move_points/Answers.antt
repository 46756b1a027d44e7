use Rattle.fhirpath_laws.proofs.Points.{raised, lowered}
use Rattle.fhirpath_laws.proofs.decimals.exponents_move_points.Goals as goal

pub returns-clause-raised : goal.returns-clause-raised
returns-clause-raised c = raised

pub returns-clause-lowered : goal.returns-clause-lowered
returns-clause-lowered c = lowered
