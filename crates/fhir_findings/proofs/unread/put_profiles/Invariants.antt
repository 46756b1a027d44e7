use Rattle.std.proofs.Common.{◌≡◌, ◌++◌, map, drop}
use Rattle.std.specs.Prelude.{string_bytes}
use Rattle.std.specs.List.{flat_map}
use Rattle.fhir_facets.specs.Views.{unread_seen}
use Rattle.fhir_facets.specs.Carried.{profile_unread}
use Rattle.fhir_findings.proofs.unread.put_profiles.Given as goal

abbrev pub invariant-loop-profile : goal.invariant-loop-profile
invariant-loop-profile l =
    map unread_seen l.into.items ++ flat_map (profile_unread l.schema) (map string_bytes (drop l.profile-index l.profiles))
    ≡ map unread_seen l.fn.into.items ++ flat_map (profile_unread l.schema) (map string_bytes l.profiles)
