use Rattle.std.proofs.Common.{map, take}
use Rattle.fhir_names.specs.Places.{Finds}
use Rattle.fhir_archives.specs.Views.{named_seen}
use Rattle.fhir_archives.proofs.table.names_of.Given as goal

abbrev pub invariant-loop-place : goal.invariant-loop-place
invariant-loop-place l = Finds l.names (map (λ n. n.name) (map named_seen (take l.place l.all)))
