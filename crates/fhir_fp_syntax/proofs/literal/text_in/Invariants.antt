use Rattle.std.proofs.Common.{◌≡◌, ◌<◌, ℕ, length, string_bytes}
use denote.Text.{Utf8}
use denote.Shadow.{shadow}
use Rattle.fhir_fp_syntax.specs.Strings.{text_at, text_in}
use Rattle.fhir_fp_syntax.proofs.Options.{behind_front}
use Rattle.fhir_fp_syntax.proofs.literal.text_in.Given as goal

abbrev pub invariant-parts : goal.invariant-parts
invariant-parts l =
    shadow (Utf8 l.rest) × (n : ℕ) × (length l.rest < n) × (text_in l.literal ≡ behind_front (string_bytes l.out) (text_at n l.rest))

abbrev pub decreases-parts : goal.decreases-parts
decreases-parts l = length l.rest
