use Rattle.std.proofs.Common.{arith}
use Rattle.std.proofs.lemmas.Grind.{text_groups}
use Rattle.fhir_fp_values.proofs.table.Table.put.Goals as goal

pub returns : goal.returns
returns c = λ other. grind (arith, text_groups)
