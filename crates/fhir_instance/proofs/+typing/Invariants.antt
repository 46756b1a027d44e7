use Rattle.std.proofs.Common.{◌≡◌, ◌-◌, drop, map, length}
use Rattle.std.specs.List.{zip}
use Rattle.fhir_instance.specs.Typing.{both, joined, object_kids}
use Rattle.fhir_instance.specs.Found.{kids_found, frame_of, fields_in}
use Rattle.fhir_instance.proofs.Joining.{value_items, companion_items, pair_items}
use Rattle.fhir_instance.proofs.Walking.{rest_items, IsRest}
use Rattle.fhir_instance.proofs.+typing.Given as goal

abbrev pub invariant-children::add_each_value-loop-i : goal.invariant-children::add_each_value-loop-i
invariant-children::add_each_value-loop-i l =
    both (kids_found l.found) (joined (map (value_items l.schema l.form) (drop l.i l.items.items))) ≡ both (kids_found l.initial.found)
    (joined (map (value_items l.schema l.form) l.items.items))

abbrev pub invariant-children::add_each_alone-loop-i : goal.invariant-children::add_each_alone-loop-i
invariant-children::add_each_alone-loop-i l =
    both (kids_found l.found) (joined (map (companion_items l.schema l.form) (drop l.i l.items.items))) ≡ both (kids_found l.initial.found)
    (joined (map (companion_items l.schema l.form) l.items.items))

abbrev pub invariant-pairs::add_each_pair-loop-i : goal.invariant-pairs::add_each_pair-loop-i
invariant-pairs::add_each_pair-loop-i l =
    both (kids_found l.found) (joined (map (pair_items l.schema l.form) (drop l.i (zip l.values.items l.companions.items)))) ≡ both
    (kids_found l.initial.found) (joined (map (pair_items l.schema l.form) (zip l.values.items l.companions.items)))

abbrev pub invariant-children::object_kids-loop-i : goal.invariant-children::object_kids-loop-i
invariant-children::object_kids-loop-i l = record {
  found : both (kids_found l.found) (rest_items l.schema (frame_of l.fn.node l.fn.role) l.members.items (drop l.i l.spelled.items))
      ≡ object_kids l.schema (frame_of l.fn.node l.fn.role) (fields_in l.schema l.members.items);
  rest : IsRest l.schema (frame_of l.fn.node l.fn.role) l.members.items (drop l.i l.spelled.items);
}

abbrev pub decreases-children::object_kids-loop-i : goal.decreases-children::object_kids-loop-i
decreases-children::object_kids-loop-i l = length l.spelled.items - l.i
