use Rattle.std.proofs.Common.{sym, ◌∙◌}
use Rattle.fhir_fp_syntax.specs.Expression.{expression_of}
use Rattle.fhir_fp_syntax.proofs.Written.{written, written_again}
use Rattle.fhir_fp_syntax.proofs.parsing.parse.Goals as goal

pub returns-in-Ok-clause-found : goal.returns-in-Ok-clause-found
returns-in-Ok-clause-found c = written c.args.text.now (expression_of c.in-Ok.e) c.in-Ok.ensures

pub returns-in-Ok-clause-only : goal.returns-in-Ok-clause-only
returns-in-Ok-clause-only c = λ e h. sym c.in-Ok.ensures ∙ written_again c.args.text.now e h

pub returns-in-Err-Unread-clause-only : goal.returns-in-Err-Unread-clause-only
returns-in-Err-Unread-clause-only c = λ e h. sym (rw c.in-Err-Unread.field-0-is at c.in-Err-Unread.ensures) ∙ written_again c.args.text.now e h
