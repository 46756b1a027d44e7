use Rattle.std.proofs.Common.{◌≡◌, ◌++◌, map, drop}
use Rattle.std.specs.List.{flat_map}
use Rattle.fhir_json.specs.Views.{trees_of, property_of}
use Rattle.fhir_alike.specs.Mark.{tails_of, texts_in, member_texts}
use Rattle.fhir_alike.proofs.mark.+texts.Given as goal

abbrev pub invariant-push_items-loop-item : goal.invariant-push_items-loop-item
invariant-push_items-loop-item l =
    map (λ t. t.now) l.tails.items ++ tails_of l.stem (flat_map texts_in (trees_of (drop l.item-index l.item-items)))
    ≡ map (λ t. t.now) l.initial.tails.items ++ tails_of l.stem (flat_map texts_in (trees_of l.item-items))

abbrev pub invariant-push_members-loop-member : goal.invariant-push_members-loop-member
invariant-push_members-loop-member l =
    map (λ t. t.now) l.tails.items ++ tails_of l.stem (flat_map member_texts (map property_of (drop l.member-index l.member-items)))
    ≡ map (λ t. t.now) l.initial.tails.items ++ tails_of l.stem (flat_map member_texts (map property_of l.member-items))
