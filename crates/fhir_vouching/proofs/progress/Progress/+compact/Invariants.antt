use Rattle.std.proofs.Common.{drop, false}
use Rattle.fhir_json.specs.Views.{items_view, members_view}
use Rattle.fhir_json.specs.Compact.{items_text, members_text}
use Rattle.fhir_vouching.specs.declared.progress.Progress.{Progress}
use Rattle.fhir_vouching.specs.Progress.{Adds}
use Rattle.fhir_vouching.proofs.progress.Progress.+compact.Given as goal

abbrev pub invariant-then_items-loop-item : goal.invariant-then_items-loop-item
invariant-then_items-loop-item l =
    (end : Progress) → Adds l.progress (items_text l.begun (items_view (drop l.item-index l.items))) end
    → Adds l.initial.progress (items_text false (items_view l.items)) end

abbrev pub invariant-then_members-loop-member : goal.invariant-then_members-loop-member
invariant-then_members-loop-member l =
    (end : Progress) → Adds l.progress (members_text l.begun (members_view (drop l.member-index l.members))) end
    → Adds l.initial.progress (members_text false (members_view l.members)) end
