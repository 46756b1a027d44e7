use Rattle.std.proofs.Common.{[]}
use Rattle.fhir_compare_engine.proofs.running.compare_directories.Goals as goal

pub returns-in-Err : goal.returns-in-Err
returns-in-Err g c = ([], [], rw c.end_with.ensures tt)
