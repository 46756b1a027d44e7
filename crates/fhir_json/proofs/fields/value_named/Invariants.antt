use Rattle.std.proofs.Common.{◌≡◌, drop}
use Rattle.fhir_json.specs.Views.{members_view}
use Rattle.fhir_json.specs.Fields.{value_named}
use Rattle.fhir_json.proofs.fields.value_named.Given as goal

abbrev pub invariant-loop-member : goal.invariant-loop-member
invariant-loop-member l = value_named l.name (members_view (drop l.member-index l.members)) ≡ value_named l.name (members_view l.members)
