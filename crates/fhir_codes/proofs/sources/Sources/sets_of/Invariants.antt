use Rattle.std.proofs.Common.{◌≡◌, map, take}
use Rattle.fhir_codes.specs.Including.{included}
use Rattle.fhir_codes.proofs.sources.Sources.sets_of.Given as goal

abbrev pub invariant-loop-part : goal.invariant-loop-part
invariant-loop-part l = l.all.items ≡ map (included l.self.tables) (take l.part-index l.parts)
