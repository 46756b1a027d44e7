use Rattle.std.proofs.Common.{[], ◌++◌, sym, ap, subst, append-nil, ◌∙◌}
use Rattle.std.specs.Option.{option_map_or}
use Rattle.fhir_cert_check.specs.Held.{Holds}
use Rattle.fhir_cert_check.specs.Rules.{own_constraints, constraints_at}
use Rattle.fhir_cert_check.proofs.Entailed.{all_held}
use Rattle.fhir_cert_check.proofs.constraints.held_at.Goals as goal

pub returns-in-Some : goal.returns-in-Some
returns-in-Some c =
    let s = c.args.schema.now in
    let own = own_constraints s c.args.node in
    all_held c.hold_own-in-Some.result c.in_ok-held.held own (own_constraints s c.in-Some.target) (constraints_at s c.args.node)
    c.hold_own-in-Some.ensures (c.in_ok-held.ensures [] c.new-empty.ensures)
    (ap (λ o. own ++ option_map_or (own_constraints s) o []) (sym c.in-Some.is ∙ c.target.ensures))

pub returns-in-None : goal.returns-in-None
returns-in-None c =
    let s = c.args.schema.now in
    let own = own_constraints s c.args.node in
    subst (Holds c.in_ok-held.held)
    (sym (append-nil own) ∙ ap (λ o. own ++ option_map_or (own_constraints s) o []) (sym c.in-None.is ∙ c.target.ensures))
    (c.in_ok-held.ensures [] c.new-empty.ensures)
