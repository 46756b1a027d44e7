use Rattle.fhir_overlay.proofs.SoundLaid.{laid_sound, sliced_sound}
use Rattle.fhir_overlay.proofs.SoundRead.{read_sound}
use Rattle.fhir_overlay.proofs.SoundWritten.{written_sound}
use Rattle.fhir_overlay.proofs.laws.sound_elements.Goals as goal

pub returns-clause-read : goal.returns-clause-read
returns-clause-read c = read_sound

pub returns-clause-laid : goal.returns-clause-laid
returns-clause-laid c = laid_sound

pub returns-clause-sliced : goal.returns-clause-sliced
returns-clause-sliced c = sliced_sound

pub returns-clause-tree : goal.returns-clause-tree
returns-clause-tree c = written_sound
