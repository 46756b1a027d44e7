-- What is read of words and of a folder.
use Rattle.std.specs.Prelude.{◌≡◌, All, Result, Ok, Err}
use Rattle.std.specs.Map.{keys_of}
use Rattle.fhir_package.specs.declared.folder.FolderFault.{FolderFault}
use Rattle.fhir_package.specs.Folder.{Files}
use Rattle.fhir_package.specs.Packing.{json_names}
use Rattle.fhir_package.specs.ReadFiles.{ReadFiles, IsFrom}
use Rattle.fhir_words.specs.declared.request.WordsFault.{WordsFault}
use Rattle.fhir_answers.specs.declared.reply.Status.{Status}
use Rattle.fhir_answers.specs.declared.reply.Status.TheVariants.{Usage, NoMemory}

-- the status where the words ask for nothing
abbrev pub words_status : WordsFault → Status
words_status WordsFault.Usage = Usage
words_status WordsFault.NoMemory = NoMemory

-- What may have been read of a folder with these files: all that are JSON files, in the order of their names, each with its bytes
-- where the device gave them; or nothing, where it didn't list the folder.
abbrev pub IsReadOf : Files → Result ReadFiles FolderFault → Type 0
IsReadOf folder (Ok files) = (keys_of files ≡ json_names (keys_of folder)) × All (IsFrom folder) files
IsReadOf folder (Err fault) = Unit {0}
