-- What an answer says of the folders that were read. Want of memory decides nothing.
use Rattle.std.specs.Prelude.{◌≡◌, Option, None, Result, Ok, Err, String, string_bytes}
use Rattle.std.specs.declared.alloc.Global.{Global}
use Rattle.fhir_new_folder.specs.declared.new_folder.BeginFault.{BeginFault}
use Rattle.fhir_new_folder.specs.declared.new_folder.BeginFault.TheVariants as begin
use Rattle.fhir_new_folder.specs.declared.new_folder.WriteFault.{WriteFault}
use Rattle.fhir_new_folder.specs.declared.new_folder.WriteFault.TheVariants as write
use Rattle.fhir_gather.specs.declared.fault.GatherFault.{GatherFault}
use Rattle.fhir_gather.specs.declared.fault.GatherFault.TheVariants.{Exists, Left, Unlisted, Unreadable, NotJson, Unwritten, NoMemory}
use Rattle.fhir_gather.specs.Gathering.{Gathered}
use Rattle.fhir_gather.specs.Reading.{Refusal, unreadable, not_json}

-- the fault is the refusal, or says that memory ran out
abbrev pub IsRefusal : GatherFault → Result Gathered Refusal → Type 0
IsRefusal Exists answer = ⊥
IsRefusal Left answer = ⊥
IsRefusal (Unlisted folder) answer = ⊥
IsRefusal (Unreadable folder file) answer = answer ≡ Err (unreadable (string_bytes folder, string_bytes file))
IsRefusal (NotJson folder file) answer = answer ≡ Err (not_json (string_bytes folder, string_bytes file))
IsRefusal (Unwritten name) answer = ⊥
IsRefusal NoMemory answer = Unit {0}

-- what is gathered, or the refusal
abbrev pub IsGathered : Result Gathered GatherFault → Result Gathered Refusal → Type 0
IsGathered (Ok g) answer = answer ≡ Ok g
IsGathered (Err fault) answer = IsRefusal fault answer

-- ---- the new folder's faults

-- the fault of a new folder that isn't begun
abbrev pub begin_fault : BeginFault → GatherFault
begin_fault begin.Exists = Exists
begin_fault begin.Left = Left
begin_fault begin.Device = Unwritten None

-- the fault of a file that isn't written, by its name, or of the new folder itself
abbrev pub write_fault : WriteFault → Option (String Global) → GatherFault
write_fault write.Device name = Unwritten name
write_fault write.NoMemory name = NoMemory
