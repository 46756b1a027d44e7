use Rattle.std.proofs.Common.{◌≡◌, drop}
use Rattle.fhir_json.specs.Views.{items_view, members_view}
use Rattle.fhir_codes.specs.CodeSystems.{nested_are_concepts, are_concepts}
use Rattle.fhir_codes.proofs.code_systems.+concepts.Given as goal

abbrev pub invariant-are_concepts-loop-item : goal.invariant-are_concepts-loop-item
invariant-are_concepts-loop-item l = are_concepts (items_view (drop l.item-index l.item-items)) ≡ are_concepts (items_view l.item-items)

abbrev pub invariant-nested_are_concepts-loop-member : goal.invariant-nested_are_concepts-loop-member
invariant-nested_are_concepts-loop-member l =
    nested_are_concepts (members_view (drop l.member-index l.member-items)) ≡ nested_are_concepts (members_view l.member-items)
