use Rattle.std.proofs.Common.{refl, ap, ◌∙◌}
use Rattle.std.specs.List.{flat_map}
use Rattle.fhir_elements.specs.Tests.{first_of}
use Rattle.fhir_cert_check.specs.Rules.{constraints_at}
use Rattle.fhir_cert_check.proofs.Entailed.{rule_as}
use Rattle.fhir_cert_check.proofs.constraints.constraint_failing.Goals as goal

pub returns : goal.returns
returns c =
    let s = c.args.schema.now in
    c.first_unanswered.ensures (constraints_at s c.args.n) c.in_ok-held.ensures
    ∙ ap (λ f. first_of (flat_map f (constraints_at s c.args.m)))
    (rule_as (λ e. (c.same_is_equal.ensures e e).1 refl) c.listed_is_entailed.ensures c.in_ok-held.held (constraints_at s c.args.n) c.in_ok-held.ensures)
