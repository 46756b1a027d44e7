use Rattle.std.proofs.Common.{◌≡◌, ◌++◌, flat_map, string_bytes}
use Rattle.fhir_markup.specs.Markup.{escaped_character}
use Rattle.fhir_markup.proofs.writing.push_escaped.Given as goal

abbrev pub invariant-loop-character : goal.invariant-loop-character
invariant-loop-character l = string_bytes l.into ≡ string_bytes l.fn.into ++ flat_map escaped_character l.yielded
