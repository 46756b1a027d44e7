use Rattle.std.proofs.Common.{arith, string_bytes}
use Rattle.std.proofs.lemmas.Map.Text.{text_keys}
use Rattle.fhir_audit_lines.proofs.naming.count_more.Goals as goal

pub overflow_add-count : goal.overflow_add-count
overflow_add-count c = grind (arith, text_keys, c.requires (string_bytes c.args.front))

pub returns-clause-counted : goal.returns-clause-counted
returns-clause-counted c = λ q. grind (arith, text_keys)
