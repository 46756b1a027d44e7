use Rattle.std.proofs.Common.{◌≡◌, ◌++◌, sym, refl, ◌∙◌}
use Rattle.fhir_cert_check.specs.Rules.{constraint_rule}
use Rattle.fhir_cert_check.proofs.First.{first_past}
use Rattle.fhir_cert_check.proofs.Entailed.{repeated_there}
use Rattle.fhir_cert_check.proofs.constraints.are_repeated.Goals as goal

pub loop-position-preserved : goal.loop-position-preserved
loop-position-preserved c = λ before after.
    let base = c.index-bases-position in
    first_past (constraint_rule (before ++ c.args.own.now ++ after)) c.args.bases.now c.loop-position.position base.result c.loop-position-test.true base.is
    (repeated_there (λ e. (c.same_is_equal.ensures e e).1 refl) c.listed_is_entailed.ensures c.args.own.now c.loop-position.position base.result
    (sym c.is_repeated.ensures ∙ c.if-not-is_repeated.false) before after)
    ∙ c.loop-position.invariant before after
