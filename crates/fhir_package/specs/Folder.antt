-- What a folder is: names with bytes. And what a call on one counts as a failure of the device.
use Rattle.std.specs.Prelude.{ℕ, List, Result, Ok, Err}
use Rattle.fhir_json.specs.Tree.{Text}
use Rattle.fhir_package.specs.declared.folder.FolderFault.{FolderFault}
use Rattle.fhir_package.specs.declared.folder.FolderFault.TheVariants.{Device, NoMemory}

-- names with bytes
abbrev pub Files : Type 0
Files = List (Text × List ℕ)

-- one for a failure of the device
abbrev pub failures_in : FolderFault → ℕ
failures_in Device = 1
failures_in NoMemory = 0

-- the same of what a call answers
abbrev pub failed : {X : Type 0} → Result X FolderFault → ℕ
failed (Ok x) = 0
failed (Err fault) = failures_in fault
