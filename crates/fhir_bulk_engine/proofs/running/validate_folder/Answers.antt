use Rattle.std.proofs.Common.{Some}
use Rattle.fhir_bulk_engine.proofs.running.validate_folder.Goals as goal

pub returns-in-Ok : goal.returns-in-Ok
returns-in-Ok g c = (Some c.in-Ok.tally, c.tally_status.ensures, c.in-Ok.ensures.told, tt)
