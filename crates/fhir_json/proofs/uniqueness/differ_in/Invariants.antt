use Rattle.std.proofs.Common.{◌≡◌, drop}
use Rattle.fhir_json.specs.Tree.{names}
use Rattle.fhir_json.specs.Views.{members_view}
use Rattle.fhir_json.specs.Sound.{differ}
use Rattle.fhir_json.specs.Keys.{has_key}
use Rattle.fhir_json.proofs.Differing.{all_new}
use Rattle.fhir_json.proofs.uniqueness.differ_in.Given as goal

abbrev pub invariant-loop-member : goal.invariant-loop-member
invariant-loop-member l =
    all_new (λ name. has_key name l.seen) (names (members_view (drop l.member-index l.members))) ≡ differ (names (members_view l.members))
