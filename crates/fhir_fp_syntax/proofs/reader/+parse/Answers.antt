use Rattle.std.proofs.Common.{◌<◌, ◌-◌, length, sym, ap, ◌∙◌, arith}
use Rattle.std.proofs.lemmas.List.{length-map}
use Rattle.std.proofs.lemmas.Result.{err_from_is_err_and}
use Rattle.fhir_fp_syntax.specs.Expression.{expression_of}
use Rattle.fhir_fp_syntax.specs.Views.{word_of, words_of}
use Rattle.fhir_fp_syntax.specs.Words.{looseness}
use Rattle.fhir_fp_syntax.specs.Parsing.{inner_at, calls_at, is_deep, tail_at, at_level, more_at}
use Rattle.fhir_fp_syntax.specs.Answers.{◌>>=◌}
use Rattle.fhir_fp_syntax.proofs.Options.{Fails-bind}
use Rattle.fhir_fp_syntax.proofs.Steps.{level_begins, more_ends, more_stops, more_turns}
use Rattle.fhir_fp_syntax.proofs.reader.+parse.Goals as goal

pub level_of-tails-init : goal.level_of-tails-init
level_of-tails-init t c = (
  length (words_of c.in_ok-e.rest.now),
  omega (arith, length-map c.in_ok-e.rest.now word_of),
  c.in_ok-e.ensures.shorter,
  level_begins (inner_at c.args.depth) (calls_at (is_deep c.args.depth) (inner_at c.args.depth)) c.args.n c.if-n-eq0.false (words_of c.args.tokens.now) (words_of c.in_ok-e.rest.now) (expression_of c.in_ok-e.e) c.in_ok-e.ensures.value,
)

pub level_of-returns-in_default-clause-value : goal.level_of-returns-in_default-clause-value
level_of-returns-in_default-clause-value t c =
    c.tails.invariant.3 ∙ more_ends _ _ c.tails.invariant.0 (expression_of c.tails.e) c.tails.rest.now c.in_default.len_below

pub level_of-returns-then-looseness-n-clause-value :
    goal.level_of-returns-then-looseness-n-clause-value
level_of-returns-then-looseness-n-clause-value t c =
    c.tails.invariant.3 ∙ more_stops _ _ c.tails.invariant.0 (expression_of c.tails.e) c.tails.rest.now _ c.in-len1-up.len_at_least (λ e. c.if-looseness-n.true (c.looseness.ensures ∙ ap looseness c.next_of-next.ensures ∙ e))

pub level_of-returns-in_err-grown-clause-value : goal.level_of-returns-in_err-grown-clause-value
level_of-returns-in_err-grown-clause-value t c =
    let loose = sym (ap looseness c.next_of-next.ensures) ∙ sym c.looseness.ensures ∙ c.if-looseness-n.false in
    let turn = more_turns c.args.n (tail_at (inner_at c.args.depth) (calls_at (is_deep c.args.depth) (inner_at c.args.depth)) (at_level c.args.depth (c.args.n - 1)))
    c.tails.invariant.0 (expression_of c.tails.e) c.tails.rest.now _ c.tails.invariant.1 c.in-len1-up.len_at_least loose in
    let p = err_from_is_err_and c.from_residual-in_err-grown.result c.from_residual-in_err-grown.ensures.1 in
    let h = rw (c.next_of-next.ensures, c.behind_first-after.ensures) at c.in_err-grown.ensures.value in
    rw (p.1, p.2) (Fails-bind _ _ _ _ (c.tails.invariant.3 ∙ turn.2) h)

pub level_of-tails-preserved : goal.level_of-tails-preserved
level_of-tails-preserved t c =
    let loose = sym (ap looseness c.next_of-next.ensures) ∙ sym c.looseness.ensures ∙ c.if-looseness-n.false in
    let tail = tail_at (inner_at c.args.depth) (calls_at (is_deep c.args.depth) (inner_at c.args.depth)) (at_level c.args.depth (c.args.n - 1)) in
    let turn = more_turns c.args.n tail c.tails.invariant.0 (expression_of c.tails.e) c.tails.rest.now _ c.tails.invariant.1 c.in-len1-up.len_at_least loose in
    let h = rw (c.next_of-next.ensures, c.behind_first-after.ensures) at c.in_ok-grown.ensures.value in
    let shorter = c.in_ok-grown.ensures.shorter in
    let fewer : length c.in_ok-grown.left.now < length c.tails.rest.now = grind arith in (
      turn.0,
      omega (arith, fewer, turn.1, c.tails.invariant.1),
      omega (arith, fewer, c.tails.invariant.2),
      c.tails.invariant.3 ∙ turn.2 ∙ ap (λ o. o >>= (λ x. more_at c.args.n tail turn.0 x.0 x.1)) h,
    )
