use Rattle.std.proofs.Common.{◌≡◌, ◌+◌, ◌-◌, ◌<◌, ◌≤◌, ℕ, List, length, get_or, subst, arith}
use Rattle.std.specs.Prelude.{IsUtf8}
use Rattle.std.specs.Str.{IsCharBoundary}
use Rattle.std.proofs.lemmas.Str.{IsCharBoundary-after_ascii}
use Rattle.fhir_fp_syntax.proofs.lexer.split_ascii.Goals as goal

-- what follows an ASCII byte begins a character
boundary : (text : List ℕ) (n : ℕ) → IsUtf8 text → (0 < n) × (n ≤ length text) × (get_or text (n - 1) 0 < 128) → IsCharBoundary text n
boundary text n utf8 h =
    let k : n - 1 + 1 ≡ n = omega arith in
    subst (λ (i : ℕ). IsCharBoundary text i) k (IsCharBoundary-after_ascii text (n - 1) utf8 (omega arith) h.2)

pub range-requires-clause-end_boundary : goal.range-requires-clause-end_boundary
range-requires-clause-end_boundary c = boundary c.args.text.now c.args.n c.utf8.text c.requires

pub range_from-requires : goal.range_from-requires
range_from-requires c some = boundary c.args.text.now c.args.n c.utf8.text c.requires
