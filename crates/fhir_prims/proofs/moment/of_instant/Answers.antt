use Rattle.fhir_prims.specs.Views.{moment_seen}
use Rattle.fhir_prims.proofs.Instants.{has_its_day}
use Rattle.fhir_prims.proofs.moment.of_instant.Goals as goal

pub day_of_minutes-day-requires : goal.day_of_minutes-day-requires
day_of_minutes-day-requires c = has_its_day (moment_seen c.args.moment.now) c.day_at.result c.requires c.day_at.ensures
