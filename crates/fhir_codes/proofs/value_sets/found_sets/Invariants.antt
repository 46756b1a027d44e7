use Rattle.std.proofs.Common.{◌≡◌, map, take}
use Rattle.fhir_codes.specs.Expanding.{expansion_of}
use Rattle.fhir_codes.specs.Listing.{found_sets}
use Rattle.fhir_codes.proofs.value_sets.found_sets.Given as goal

abbrev pub invariant-loop-place : goal.invariant-loop-place
invariant-loop-place l = found_sets l.entries.items ≡ map (λ e. (e.0, expansion_of l.from e.1)) (take l.place l.from.value_sets)
