use Rattle.std.proofs.Common.{ap, ap₂, ◌∙◌}
use Rattle.fhir_json.specs.Tree.{Text, Tree}
use Rattle.fhir_reach.specs.Keys.{with_keys}
use Rattle.fhir_reach.specs.Starting.{resource_keys, tree_keys}
use Rattle.fhir_reach.proofs.Adding.{next_item, next_member, seen_name, seen_value}
use Rattle.fhir_reach.proofs.starting.+tree.Goals as goal

pub add_items-loop-item-preserved : goal.add_items-loop-item-preserved
add_items-loop-item-preserved t c =
    next_item c.deref-item-items.result.now c.loop-item.item-index c.item-item.result c.loop-item.found c.add_tree.new.found _
    c.loop-item-test.true c.item-item.is c.in_ok-add_tree.ensures c.loop-item.invariant

pub add_members-loop-member-preserved : goal.add_members-loop-member-preserved
add_members-loop-member-preserved t c =
    let m = c.member-item.result in
    next_member c.deref-member-items.result.now c.loop-member.member-index m c.loop-member.found c.add_resource_type.new.found c.add_tree.new.found _
    c.loop-member-test.true c.member-item.is
    (c.in_ok-add_resource_type.ensures
    ∙ ap₂ (λ (n : Text) (v : Tree). with_keys c.loop-member.found (resource_keys n v)) (c.as_str.ensures.value ∙ seen_name m) (seen_value m))
    (c.in_ok-add_tree.ensures ∙ ap (λ (v : Tree). with_keys c.add_resource_type.new.found (tree_keys v)) (seen_value m))
    c.loop-member.invariant
