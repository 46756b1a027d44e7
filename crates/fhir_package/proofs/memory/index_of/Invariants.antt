use Rattle.std.proofs.Common.{take}
use Rattle.std.specs.Map.{keys_of}
use Rattle.fhir_names.specs.Places.{Finds}
use Rattle.fhir_package.specs.Memory.{memory_files}
use Rattle.fhir_package.proofs.memory.index_of.Given as goal

abbrev pub invariant-loop-place : goal.invariant-loop-place
invariant-loop-place l = Finds l.names (keys_of (memory_files (take l.place l.files)))
