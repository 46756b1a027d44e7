use Rattle.std.proofs.Common.{arith}
use Rattle.std.proofs.lemmas.Grind.{text_groups}
use Rattle.fhir_plain.proofs.sayings.put_written.Goals as goal

pub returns : goal.returns
returns c = λ other written. grind (arith, text_groups)
