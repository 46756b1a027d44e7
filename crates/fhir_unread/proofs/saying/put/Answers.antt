use Rattle.std.proofs.Common.{arith}
use Rattle.std.proofs.lemmas.Grind.{text_groups}
use Rattle.fhir_unread.proofs.saying.put.Goals as goal

pub returns : goal.returns
returns c = λ key. grind (arith, text_groups)
