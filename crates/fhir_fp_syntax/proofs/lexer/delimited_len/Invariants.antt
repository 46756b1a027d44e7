use Rattle.std.proofs.Common.{◌≡◌, ◌+◌, ◌-◌, ◌≤◌, length, drop}
use Rattle.std.specs.List.{prefix_len}
use Rattle.fhir_fp_syntax.specs.Tokens.{is_no_backquote}
use Rattle.fhir_fp_syntax.proofs.lexer.delimited_len.Given as goal

abbrev pub invariant-loop-i : goal.invariant-loop-i
invariant-loop-i l = (l.i ≤ length l.text) × (prefix_len is_no_backquote l.text ≡ l.i + prefix_len is_no_backquote (drop l.i l.text))

abbrev pub decreases-loop-i : goal.decreases-loop-i
decreases-loop-i l = length l.text - l.i
