use Rattle.std.proofs.Common.{arith}
use Rattle.std.proofs.lemmas.Grind.{common_steps}
use Rattle.fhir_package.proofs.MemoryFiles.{keys_of-memory_files}
use Rattle.fhir_package.proofs.memory.names_of.Goals as goal

pub returns-clause-names : goal.returns-clause-names
returns-clause-names c = grind (arith, common_steps, keys_of-memory_files c.args.files.now)
