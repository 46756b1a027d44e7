use Rattle.std.proofs.Common.{◌≡◌, map, take, string_bytes}
use Rattle.fhir_package.proofs.memory.names_of.Given as goal

abbrev pub invariant-loop-file : goal.invariant-loop-file
invariant-loop-file l = map string_bytes l.names.items ≡ map (λ f. string_bytes f.name) (take l.file-index l.files)
