use Rattle.std.proofs.Common.{◌≡◌, map, take}
use Rattle.fhir_schema.specs.Settling.{base_place}
use Rattle.fhir_schema.proofs.chains.bases_of.Given as goal

abbrev pub invariant-loop-definition : goal.invariant-loop-definition
invariant-loop-definition l = l.places.items ≡ map (base_place l.table) (take l.definition-index l.definition-items)
