-- What stands under a directory's two names, by how far its making has come and by what was written.
use Rattle.std.specs.Prelude.{None, Some}
use Rattle.fhir_package.specs.Folder.{Files}
use Rattle.fhir_new_folder.specs.declared.directory.Stage.{Stage}
use Rattle.fhir_new_folder.specs.declared.directory.Stage.TheVariants.{Unbegun, Begun, Spoiled, Finished}
use Rattle.fhir_new_folder.specs.Folders.{Standing}

-- of the files that were written
abbrev pub standing : Stage → Files → Standing
standing Unbegun files = record { whole = None; part = None }
standing Begun files = record { whole = None; part = Some files }
standing Spoiled files = record { whole = None; part = Some files }
standing Finished files = record { whole = Some files; part = None }
