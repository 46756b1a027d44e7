use Rattle.std.proofs.Common.{◌≡◌, ◌++◌, map, drop}
use Rattle.fhir_json.specs.Views.{items_view, members_view}
use Rattle.fhir_codes.specs.CodeSystems.{nested_codes, codes_of_concepts}
use Rattle.fhir_codes.proofs.code_systems.+codes.Given as goal

abbrev pub invariant-put_concepts-loop-item : goal.invariant-put_concepts-loop-item
invariant-put_concepts-loop-item l =
    map (λ c. c.now) l.out.items ++ codes_of_concepts (items_view (drop l.item-index l.item-items))
    ≡ map (λ c. c.now) l.initial.out.items ++ codes_of_concepts (items_view l.item-items)

abbrev pub invariant-put_nested-loop-member : goal.invariant-put_nested-loop-member
invariant-put_nested-loop-member l =
    record {
      unchanged : l.out.items ≡ l.initial.out.items;
      rest : nested_codes (members_view (drop l.member-index l.member-items)) ≡ nested_codes (members_view l.member-items);
    }
