use Rattle.std.proofs.Common.{Bool, [], ◌∷◌, ◌++◌, subst}
use Rattle.std.specs.Prelude.{if◌then◌else◌}
use Rattle.fhir_fp_values.specs.Tables.{Holds}
use Rattle.fhir_fp_values.proofs.sets.add.Goals as goal

pub returns-then-not-branch-clause-held : goal.returns-then-not-branch-clause-held
returns-then-not-branch-clause-held c = λ h.
    let seen = c.args.seen.now.items in
    subst (λ (b : Bool). Holds c.add.new.self (if b then seen ++ c.args.value ∷ [] else seen)) c.if-not-branch.true (c.in_ok-add.ensures.held seen h)
