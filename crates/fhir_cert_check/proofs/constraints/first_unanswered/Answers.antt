use Rattle.std.proofs.Common.{◌≡◌, [], true, false, Some, sym, ◌∙◌}
use Rattle.std.specs.List.{flat_map}
use Rattle.std.specs.Option.{is_some, option_map_or}
use Rattle.fhir_elements.specs.Tests.{first_of}
use Rattle.fhir_schema.specs.Schemas.{target}
use Rattle.fhir_cert_check.specs.Held.{rule_by}
use Rattle.fhir_cert_check.specs.Rules.{own_constraints}
use Rattle.fhir_cert_check.specs.Views.{rule_name}
use Rattle.fhir_cert_check.proofs.First.{first_in_front, first_in_back}
use Rattle.fhir_cert_check.proofs.constraints.first_unanswered.Goals as goal

pub returns-then-is_some : goal.returns-then-is_some
returns-then-is_some c = λ own holds.
    let s = c.args.schema.now in
    let some : is_some c.unanswered-rule.result ≡ true = sym c.is_some.ensures ∙ c.if-is_some.true in
    first_in_front (rule_by c.args.held.now own) rule_name (own_constraints s c.args.node) (option_map_or (own_constraints s) (target s c.args.node) [])
    c.unanswered-rule.result (c.unanswered-rule.ensures own holds) some

pub returns-in-Some : goal.returns-in-Some
returns-in-Some c = λ own holds.
    let s = c.args.schema.now in
    let none : is_some c.unanswered-rule.result ≡ false = sym c.is_some.ensures ∙ c.if-is_some.false in
    let is : target s c.args.node ≡ Some c.in-Some.target = sym c.target.ensures ∙ c.in-Some.is in
    first_in_back (rule_by c.args.held.now own) rule_name (own_constraints s c.args.node) (option_map_or (own_constraints s) (target s c.args.node) [])
    c.unanswered-rule.result c.unanswered.result (c.unanswered-rule.ensures own holds) none
    (c.unanswered.ensures own holds ∙ (λ i. first_of (flat_map (rule_by c.args.held.now own) (option_map_or (own_constraints s) (sym is i) []))))
