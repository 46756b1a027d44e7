use Rattle.std.proofs.Common.{refl}
use Rattle.fhir_json.specs.Compact.{escape_text}
use Rattle.tool_laws.proofs.json.written_values.Goals as goal

pub returns-clause-values : goal.returns-clause-values
unfolding escape_text
returns-clause-values c = refl

pub returns-clause-escapes : goal.returns-clause-escapes
unfolding escape_text
returns-clause-escapes c = refl
