use Rattle.std.proofs.Common.{◌≡◌, ℕ, ◌+◌, ◌-◌, ◌*◌, ◌<◌, ◌≤◌, length}
use Rattle.fhir_fp_syntax.specs.Expression.{expression_of}
use Rattle.fhir_fp_syntax.specs.Views.{words_of}
use Rattle.fhir_fp_syntax.specs.Parsing.{at_level, more_at, tail_at, inner_at, calls_at, is_deep}
use Rattle.fhir_fp_syntax.proofs.reader.+parse.Given as goal

abbrev pub decreases-level_of : goal.decreases-level_of
decreases-level_of l = 24 * l.depth + 2 * l.n + 4

abbrev pub decreases-tail_of : goal.decreases-tail_of
decreases-tail_of l = 24 * l.depth + 2 * l.n + 3

abbrev pub decreases-primary_of : goal.decreases-primary_of
decreases-primary_of l = 24 * l.depth + 3

abbrev pub decreases-member_of : goal.decreases-member_of
decreases-member_of l = 24 * l.depth + 3

abbrev pub decreases-call_of : goal.decreases-call_of
decreases-call_of l = 24 * l.depth + 2

abbrev pub decreases-argument_of : goal.decreases-argument_of
decreases-argument_of l = 24 * l.depth + 1

abbrev pub decreases-inner_of : goal.decreases-inner_of
decreases-inner_of l = 24 * l.depth

-- what is read so far, and the rest
abbrev pub invariant-level_of-tails : goal.invariant-level_of-tails
invariant-level_of-tails l =
    (fuel : ℕ) × (length l.rest ≤ fuel) × (length l.rest < length l.tokens)
    × (at_level l.depth l.n (words_of l.tokens) ≡ more_at l.n (tail_at (inner_at l.depth) (calls_at (is_deep l.depth) (inner_at l.depth)) (at_level l.depth (l.n - 1))) fuel (expression_of l.e) (words_of l.rest))

abbrev pub decreases-level_of-tails : goal.decreases-level_of-tails
decreases-level_of-tails l = length l.rest
