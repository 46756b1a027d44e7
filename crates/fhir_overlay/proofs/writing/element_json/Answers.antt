use Rattle.std.proofs.Common.{map, ap, ◌∙◌}
use Rattle.fhir_json.specs.Tree.{object, members_of}
use Rattle.fhir_json.specs.Views.{property_of}
use Rattle.fhir_overlay.specs.Json.{naming_members, counting_members, typing_members, value_members, rule_members}
use Rattle.fhir_overlay.proofs.Joining.{joined}
use Rattle.fhir_overlay.proofs.writing.element_json.Goals as goal

pub returns : goal.returns
returns c =
    let e = c.args.element.now in
    c.object.ensures
    ∙ ap (λ ps. object (members_of ps))
    (joined (map property_of c.in_ok-members.members.items) _ _ _ _ _
    (naming_members e) (counting_members e) (typing_members e) (value_members e) (rule_members e) (ap (map property_of) c.in_ok-members.ensures.items)
    c.in_ok-put_naming.ensures c.in_ok-put_counting.ensures c.in_ok-put_typing.ensures c.in_ok-put_values.ensures c.in_ok-put_rules.ensures)
