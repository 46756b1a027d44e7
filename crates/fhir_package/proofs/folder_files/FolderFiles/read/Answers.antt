use Rattle.std.proofs.Common.{◌≡◌, List, [], ◌∷◌, ◌++◌, map, string_bytes, ap, subst, ◌∙◌, rules}
use Rattle.std.proofs.lemmas.List.{map-append}
use Rattle.std.specs.Map.{keys_of}
use Rattle.fhir_package.specs.declared.folder_files.FolderFile.{FolderFile}
use Rattle.fhir_package.specs.Packing.{json_names}
use Rattle.fhir_package.specs.ReadFiles.{IsFrom}
use Rattle.fhir_package.specs.FilesView.{folder_file, folder_files}
use Rattle.fhir_package.proofs.Given.{one_read}
use Rattle.fhir_package.proofs.folder_files.FolderFiles.read.Goals as goal

-- one file more
files-push : (old new : List FolderFile) (f : FolderFile) → new ≡ old ++ f ∷ [] → folder_files new ≡ folder_files old ++ folder_file f ∷ []
files-push old new f is = ap folder_files is ∙ map-append folder_file old (f ∷ [])

pub loop-name-preserved : goal.loop-name-preserved
loop-name-preserved g c =
    let files = g.F.Folder.files c.args.folder.now in
    let read = folder_files c.loop-name.files.items in
    let name = string_bytes c.in-Some.name in
    let all = map string_bytes c.loop-name.name-iterator in
    let rest = map string_bytes c.next.new.self in
    let f = folder_file c.in_ok-file.file in
    let is = files-push c.loop-name.files.items c.push.new.self.items c.in_ok-file.file c.in_ok-push.ensures.items in
    let first : all ≡ name ∷ rest = search rules in (
      c.in_ok-file.ensures.files ∙ c.loop-name.invariant.0,
      one_read files (json_names (keys_of files)) (g.F.Folder.failed_calls c.args.folder.now) read (folder_files c.push.new.self.items) f name all rest
          (g.F.Folder.failed_calls c.loop-name.folder) (g.F.Folder.failed_calls c.read_file.new.folder) is first c.in_ok-file.ensures.name
          (subst (λ fs. IsFrom fs f) c.loop-name.invariant.0 c.in_ok-file.ensures.bytes) c.in_ok-file.ensures.counted c.loop-name.invariant.1,
    )
