use Rattle.std.proofs.Common.{◌≡◌, ◌++◌, flat_map, string_bytes}
use Rattle.fhir_unread.specs.Listing.{inside_character}
use Rattle.fhir_unread.proofs.inside.push_inside.Given as goal

abbrev pub invariant-loop-character : goal.invariant-loop-character
invariant-loop-character l = string_bytes l.into ≡ string_bytes l.fn.into ++ flat_map inside_character l.yielded
