use Rattle.std.proofs.Common.{◌≡◌, List, ℕ, Option, Some, None, refl, sym, ap, ◌∙◌}
use Rattle.std.specs.Option.{option_map, option_copied}
use Rattle.fhir_package.specs.declared.folder_files.FolderFile.{FolderFile}
use Rattle.fhir_package.specs.Memory.{given_bytes, memory_file, memory_files}
use Rattle.fhir_package.proofs.Seen.{found}
use Rattle.fhir_package.proofs.memory.file_of.Goals as goal

bytes_seen : (file : Option FolderFile) → option_map (λ f. given_bytes f.bytes) file ≡ option_map (λ e. e.1) (option_map memory_file file)
bytes_seen None = refl
bytes_seen (Some file) = refl

pub returns-in-Some : goal.returns-in-Some
returns-in-Some c =
    bytes_seen (option_copied c.file_at.result)
    ∙ ap (λ (e : Option (List ℕ × List ℕ)). option_map (λ f. f.1) e) c.file_at.ensures
    ∙ found c.args.names.now (memory_files c.args.files.now) c.args.name.now (Some c.in-Some.place) c.requires (sym c.in-Some.is ∙ c.get.ensures)

pub returns-in-None : goal.returns-in-None
returns-in-None c =
    found c.args.names.now (memory_files c.args.files.now) c.args.name.now None c.requires (sym c.in-None.is ∙ c.get.ensures)
