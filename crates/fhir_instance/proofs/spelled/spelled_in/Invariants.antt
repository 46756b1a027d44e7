use Rattle.std.proofs.Common.{◌≡◌, ◌++◌, drop, cond, None}
use Rattle.fhir_json.specs.Tree.{names}
use Rattle.fhir_json.specs.Views.{members_view}
use Rattle.fhir_instance.specs.Found.{frame_of, kids_found}
use Rattle.fhir_instance.specs.Spelled.{spelled_from, are_known}
use Rattle.fhir_instance.proofs.spelled.spelled_in.Given as goal

abbrev pub invariant-loop-i : goal.invariant-loop-i
invariant-loop-i l = record {
  spelled : l.all.items ++ spelled_from l.schema (frame_of l.node l.role) l.i (names (members_view (drop l.i l.members.items)))
      ≡ spelled_from l.schema (frame_of l.node l.role) 0 (names (members_view l.members.items));
  found : cond (are_known l.schema (frame_of l.node l.role) (names (members_view (drop l.i l.members.items)))) (kids_found l.found) None
      ≡ cond (are_known l.schema (frame_of l.node l.role) (names (members_view l.members.items))) (kids_found l.initial.found) None;
}
