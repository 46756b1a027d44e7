use Rattle.fhir_gather.proofs.Packed.{loads_lem}
use Rattle.fhir_gather.proofs.laws.loads.Goals as goal

pub returns : goal.returns
returns c = loads_lem c.reading_agrees.ensures c.sound_trees.ensures c.bundles.ensures.other
