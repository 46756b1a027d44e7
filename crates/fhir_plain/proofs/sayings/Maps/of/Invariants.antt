use Rattle.std.proofs.Common.{take}
use Rattle.std.specs.List.{flat_map}
use Rattle.fhir_plain.specs.Kept.{Says}
use Rattle.fhir_plain.specs.Sayings.{constraints_in}
use Rattle.fhir_plain.proofs.sayings.Maps.of.Given as goal

abbrev pub invariant-loop-place : goal.invariant-loop-place
invariant-loop-place l = Says l.maps (flat_map (λ e. constraints_in e.1) (take l.place l.«package».structure_definitions))
