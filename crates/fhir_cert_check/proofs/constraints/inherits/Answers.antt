use Rattle.std.proofs.Common.{◌≡◌, ◌++◌, [], None, sym, ◌∙◌}
use Rattle.std.specs.List.{flat_map}
use Rattle.std.proofs.lemmas.Bool.{OnTrue_from, OnTrue_at}
use Rattle.fhir_elements.specs.Tests.{first_of}
use Rattle.fhir_cert_check.specs.Rules.{constraint_rule, constraint_rules}
use Rattle.fhir_cert_check.proofs.Entailed.{both_repeated}
use Rattle.fhir_cert_check.proofs.constraints.inherits.Goals as goal

pub returns-then-own : goal.returns-then-own
returns-then-own c =
    OnTrue_from c.are_repeated-over.result (first_of (constraint_rules c.args.schema.now c.args.n c.args.m) ≡ None)
    (λ yes.
    sym (λ i. first_of (flat_map (constraint_rule (c.own_constraints.ensures i ++ c.taken_over.ensures i)) (c.own_constraints-2.ensures i ++ c.taken_over-2.ensures i)))
    ∙ both_repeated c.own_constraints.result.now c.taken_over.result.now c.own_constraints-2.result.now c.taken_over-2.result.now
    c.if-own.ensures (OnTrue_at yes c.are_repeated-over.ensures))
