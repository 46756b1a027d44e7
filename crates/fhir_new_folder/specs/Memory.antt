-- A folder in the making over memory: what its calls answer, and what they leave.
use Rattle.std.specs.Prelude.{◌-◌, ◌==◌, [], ℕ, Bool, false, ◌||◌, not, Option, None, Some, is_some, Result, Ok, Err, Vec, is_ok, if◌then◌else◌}
use Rattle.std.specs.declared.alloc.Global.{Global}
use Rattle.std.specs.Option.{option_map, option_map_or, option_and_then}
use Rattle.fhir_package.specs.declared.folder_files.FolderFile.{FolderFile}
use Rattle.fhir_package.specs.Folder.{Files}
use Rattle.fhir_package.specs.Memory.{memory_files}
use Rattle.fhir_new_folder.specs.declared.new_folder.BeginFault.{BeginFault}
use Rattle.fhir_new_folder.specs.declared.new_folder.BeginFault.TheVariants as begin
use Rattle.fhir_new_folder.specs.declared.new_folder.WriteFault.{WriteFault}
use Rattle.fhir_new_folder.specs.declared.new_folder.WriteFault.TheVariants as write

-- what stands under the two names, and behind how many calls one fails, if one is to
pub record MemoryStanding : Type 0 where
  pub whole : Option Files
  pub part : Option Files
  pub calls_left : Option ℕ

abbrev pub memory_whole : MemoryStanding → Option Files
memory_whole m = m.whole

abbrev pub memory_part : MemoryStanding → Option Files
memory_part m = m.part

-- the files that are kept under a name
abbrev pub kept : Option (Vec FolderFile Global) → Option Files
kept files = option_map (λ v. memory_files v.items) files

-- whether the next call fails
abbrev pub is_due : Option ℕ → Bool
is_due calls = option_map_or (λ n. n == 0) calls false

-- behind how many calls one fails, behind the next
abbrev pub counted : Option ℕ → Option ℕ
counted calls = option_and_then (λ n. if n == 0 then None else Some (n - 1)) calls

-- ---- what is answered

abbrev pub begin_answer : MemoryStanding → Result (Unit {0}) BeginFault
begin_answer m =
    if is_due m.calls_left then Err begin.Device else (
    if is_some m.whole then Err begin.Exists else (
    if is_some m.part then Err begin.Left else Ok tt))

-- where memory doesn't run out
abbrev pub write_answer : MemoryStanding → Result (Unit {0}) WriteFault
write_answer m = if is_due m.calls_left || not (is_some m.part) then Err write.Device else Ok tt

abbrev pub finish_answer : MemoryStanding → Result (Unit {0}) WriteFault
finish_answer m = if is_due m.calls_left || is_some m.whole || not (is_some m.part) then Err write.Device else Ok tt

abbrev pub abandon_answer : MemoryStanding → Result (Unit {0}) WriteFault
abandon_answer m = if is_due m.calls_left then Err write.Device else Ok tt

-- ---- what is left

abbrev pub begun : MemoryStanding → MemoryStanding
begun m = record {
  whole = m.whole;
  part = if is_ok (begin_answer m) then Some [] else m.part;
  calls_left = counted m.calls_left;
}

abbrev pub finished : MemoryStanding → MemoryStanding
finished m = record {
  whole = if is_ok (finish_answer m) then m.part else m.whole;
  part = if is_ok (finish_answer m) then None else m.part;
  calls_left = counted m.calls_left;
}

abbrev pub abandoned : MemoryStanding → MemoryStanding
abandoned m = record {
  whole = m.whole;
  part = if is_ok (abandon_answer m) then None else m.part;
  calls_left = counted m.calls_left;
}
