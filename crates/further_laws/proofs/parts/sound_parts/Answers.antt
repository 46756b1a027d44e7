use Rattle.further_laws.proofs.SoundParts.{parts_sound}
use Rattle.further_laws.proofs.parts.sound_parts.Goals as goal

pub returns : goal.returns
returns c = parts_sound
