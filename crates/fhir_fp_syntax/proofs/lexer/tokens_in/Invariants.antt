use Rattle.std.proofs.Common.{◌≡◌, ◌<◌, ◌≤◌, ℕ, length}
use denote.Text.{Utf8}
use denote.Shadow.{shadow}
use Rattle.fhir_fp_syntax.specs.Views.{words_of}
use Rattle.fhir_fp_syntax.specs.Grammar.{max_words}
use Rattle.fhir_fp_syntax.specs.Lexing.{words_in, words_at}
use Rattle.fhir_fp_syntax.proofs.Options.{behind_front}
use Rattle.fhir_fp_syntax.proofs.lexer.tokens_in.Given as goal

abbrev pub invariant-pieces : goal.invariant-pieces
invariant-pieces l =
    shadow (Utf8 l.rest) × (n : ℕ) × (length l.rest < n) × (length (words_of l.tokens.items) ≤ max_words)
    × (words_in l.text ≡ behind_front (words_of l.tokens.items) (words_at n l.rest))

abbrev pub decreases-pieces : goal.decreases-pieces
decreases-pieces l = length l.rest
