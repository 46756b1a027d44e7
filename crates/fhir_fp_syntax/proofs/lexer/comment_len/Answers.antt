use Rattle.std.proofs.Common.{◌≤◌, length, drop, ◌∙◌, arith}
use Rattle.std.proofs.lemmas.List.{length-drop}
use Rattle.fhir_fp_syntax.proofs.Pieces.{no_comment}
use Rattle.fhir_fp_syntax.proofs.lexer.comment_len.Goals as goal

pub returns-clause-value : goal.returns-clause-value
returns-clause-value c =
    let text = c.args.text.now in
    let few : length (drop c.loop-i.i text) ≤ 1 = omega (arith, length-drop c.loop-i.i text) in
    c.loop-i.invariant.1 ∙ no_comment (drop c.loop-i.i text) few
