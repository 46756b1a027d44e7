use Rattle.std.proofs.Common.{◌≡◌, ◌+◌, ◌-◌, ℕ, subst, arith}
use Rattle.std.specs.Str.{IsCharBoundary}
use Rattle.std.proofs.lemmas.Str.{IsCharBoundary-after_ascii}
use Rattle.fhir_fp_syntax.proofs.literal.behind.Goals as goal

pub range_from-requires : goal.range_from-requires
range_from-requires c some =
    let r = c.requires in
    let k : c.args.n - 1 + 1 ≡ c.args.n = omega arith in
    subst (λ (i : ℕ). IsCharBoundary c.args.text.now i) k (IsCharBoundary-after_ascii c.args.text.now (c.args.n - 1) c.utf8.text (omega arith) r.2)
