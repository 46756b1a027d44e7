use Rattle.std.proofs.Common.{arith}
use Rattle.std.proofs.lemmas.Grind.{text_groups}
use Rattle.fhir_audit.proofs.carrying.put.Goals as goal

pub returns : goal.returns
returns c = λ url. grind (arith, text_groups)
