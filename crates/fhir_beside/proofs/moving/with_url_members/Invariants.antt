use Rattle.std.proofs.Common.{◌≡◌, ◌++◌, map}
use Rattle.fhir_json.specs.Views.{property_of}
use Rattle.fhir_beside.specs.Made.{with_url_member}
use Rattle.fhir_beside.proofs.moving.with_url_members.Given as goal

abbrev pub invariant-loop-member : goal.invariant-loop-member
invariant-loop-member l =
    map property_of l.all.items ++ map (with_url_member l.url) (map property_of l.member-iterator.rest.items)
    ≡ map (with_url_member l.url) (map property_of l.fn.members.items)
