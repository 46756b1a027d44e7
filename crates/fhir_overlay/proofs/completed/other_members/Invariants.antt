use Rattle.std.proofs.Common.{◌≡◌, map, take}
use Rattle.fhir_json.specs.Views.{property_of}
use Rattle.fhir_overlay.specs.Completed.{without_member}
use Rattle.fhir_overlay.proofs.completed.other_members.Given as goal

abbrev pub invariant-loop-member : goal.invariant-loop-member
invariant-loop-member l = map property_of l.others.items ≡ without_member l.name (map property_of (take l.member-index l.members))
