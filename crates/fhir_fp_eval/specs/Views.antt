-- The world of the program, without where it lies in memory.
use Rattle.fhir_instance.specs.View.{item_of}
use Rattle.fhir_fp_eval.specs.declared.env.Env.{Env}
use Rattle.fhir_fp_eval.specs.Worlds.{World}

abbrev pub world_of : Env → World
world_of e = record { schema = e.schema.now; resource = item_of e.resource.now; context = item_of e.context.now }
