use Rattle.std.proofs.Common.{◌≡◌, take}
use Rattle.std.specs.List.{flat_map}
use Rattle.fhir_unread.specs.Sayings.{sayings_of}
use Rattle.fhir_unread.specs.Seen.{sayings_seen}
use Rattle.fhir_unread.proofs.saying.all_sayings.Given as goal

abbrev pub invariant-loop-place : goal.invariant-loop-place
invariant-loop-place l = sayings_seen l.all.items ≡ flat_map sayings_of (take l.place l.«package».structure_definitions)
