use Rattle.std.proofs.Common.{◌≡◌, drop}
use Rattle.fhir_json.specs.Tree.{names}
use Rattle.fhir_json.specs.Views.{members_view}
use Rattle.fhir_matching.specs.Equality.{are_among}
use Rattle.fhir_matching.proofs.indexed.names_at.Given as goal

abbrev pub invariant-loop-member : goal.invariant-loop-member
invariant-loop-member l =
    are_among (names (members_view (drop l.member-index l.members))) (names (members_view l.others))
    ≡ are_among (names (members_view l.members)) (names (members_view l.others))
