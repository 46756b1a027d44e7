use Rattle.std.proofs.Common.{◌≡◌, ◌+◌, false, drop}
use Rattle.std.specs.Prelude.{option_map}
use Rattle.fhir_fp_syntax.specs.Lexing.{literal_len}
use Rattle.fhir_fp_syntax.proofs.lexer.literal_len.Given as goal

abbrev pub invariant-loop-i : goal.invariant-loop-i
invariant-loop-i l = literal_len false l.text ≡ option_map (λ n. l.i + n) (literal_len l.is_escaped (drop l.i l.text))
