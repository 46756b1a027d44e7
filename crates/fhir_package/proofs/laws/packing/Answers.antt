use Rattle.fhir_package.proofs.Packs.{refused_lem, packed_lem}
use Rattle.fhir_package.proofs.Sounds.{sound_lem}
use Rattle.fhir_package.proofs.laws.packing.Goals as goal

pub returns-clause-refused : goal.returns-clause-refused
returns-clause-refused c = refused_lem c.reading_agrees.ensures

pub returns-clause-packed : goal.returns-clause-packed
returns-clause-packed c = packed_lem c.reading_agrees.ensures

pub returns-clause-sound : goal.returns-clause-sound
returns-clause-sound c = sound_lem c.reading_agrees.ensures
