use Rattle.std.proofs.Common.{◌≡◌, ℕ, ◌+◌, ◌-◌, ◌∷◌, drop, refl, ap, ◌∙◌, arith}
use Rattle.std.proofs.lemmas.Grind.{drop-set_at}
use Rattle.fhir_fp_eval.proofs.step.Steps.put_first.Goals as goal

pub returns-clause-put : goal.returns-clause-put
returns-clause-put c =
    let s = c.args.self.now in
    let last : s.first - 1 + 1 ≡ s.first = omega arith in
    λ _. drop-set_at s.steps (s.first - 1) (s.first - 1) c.args.step refl (omega (arith, s.five, s.within))
    ∙ ap (λ (n : ℕ). c.args.step ∷ drop n s.steps) last
