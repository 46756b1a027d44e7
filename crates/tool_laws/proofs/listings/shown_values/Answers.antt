use Rattle.std.proofs.Common.{refl}
use Rattle.fhir_json.specs.Compact.{escape_text}
use Rattle.tool_laws.proofs.listings.shown_values.Goals as goal

pub returns : goal.returns
unfolding escape_text
returns c = refl
