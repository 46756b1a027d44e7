use Rattle.std.proofs.Common.{◌≡◌}
use Rattle.fhir_json.specs.Views.{members_view}
use Rattle.fhir_json.specs.Fields.{value_named}
use Rattle.fhir_package.proofs.parts.take_named.Given as goal

abbrev pub invariant-loop-member : goal.invariant-loop-member
invariant-loop-member l =
    value_named l.name (members_view l.fn.members.items) ≡ value_named l.name (members_view l.member-iterator.rest.items)
