use Rattle.std.proofs.Common.{refl}
use Rattle.fhir_page_frame.proofs.pieces.short_name.Goals as goal

pub returns-in_default : goal.returns-in_default
returns-in_default c = (0, refl)

pub returns-in_default-2 : goal.returns-in_default-2
returns-in_default-2 c = (0, refl)
