-- The lines on what was gathered.
use Rattle.std.specs.Prelude.{ℕ, List, [], ◌∷◌, ◌++◌, length, count_by, Bool, true, not, Option, None, Some, if◌then◌else◌, codes}
use Rattle.std.specs.Fmt.{decimal}
use Rattle.std.specs.List.{flat_map}
use Rattle.fhir_json.specs.Tree.{Text}
use Rattle.fhir_words.specs.declared.request.Detail.{Detail}
use Rattle.fhir_words.specs.declared.request.Detail.TheVariants.{Once, Each}
use Rattle.fhir_words.specs.declared.request.Format.TheVariants.{Text as AsText}
use Rattle.fhir_lines.specs.Lines.{LineValue, text_line, file_line, row}
use Rattle.fhir_archives.specs.Archives.{Note, no_name, lacking, other}
use Rattle.fhir_gather.specs.Gathering.{Origin, Dropped}
use Rattle.fhir_gather.specs.Written.{kind_word}

-- parts behind one another
abbrev pub joined : List Text → Text
joined parts = flat_map (λ p. p) parts

-- a file of a folder, by their names
abbrev pub path_of : Text → Text → Text
path_of folder file = joined (folder ∷ codes "/" ∷ file ∷ [])

abbrev pub origin_path : Origin → Text
origin_path o = path_of o.folder o.file

abbrev pub version_text : Option Text → Text
version_text None = codes "no version"
version_text (Some version) = joined (codes "version " ∷ version ∷ [])

-- of a definition that isn't kept: that it equals the one that is, or how the two differ
abbrev pub same_text : Dropped → Text
same_text d = joined (codes "dropped: " ∷ origin_path d.first ∷ codes " has the same " ∷ kind_word d.kind ∷ [])

abbrev pub other_text : Dropped → Text
other_text d =
    joined
    (codes "dropped (" ∷ version_text d.second.version ∷ codes "): " ∷ origin_path d.first ∷ codes " has another " ∷ kind_word d.kind
    ∷ codes " of this url (" ∷ version_text d.first.version ∷ codes ")" ∷ [])

abbrev pub dropped_text : Dropped → Text
dropped_text d = if d.is_equal then same_text d else other_text d

abbrev pub dropped_line : Dropped → LineValue
dropped_line d = record (file_line (origin_path d.second) None (dropped_text d)) { url = Some d.url }

-- whether a definition that isn't kept is told: one that equals the one that is kept only where each is told
abbrev pub is_told : Detail → Dropped → Bool
is_told Each d = true
is_told Once d = not d.is_equal

-- its row, where it is told
unfoldable pub told_row : Detail → Dropped → Text
told_row detail d = if is_told detail d then row AsText (dropped_line d) else []

abbrev pub dropped_rows : Detail → List Dropped → Text
dropped_rows detail ds = flat_map (told_row detail) ds

-- ---- the files `package.json`

abbrev pub package_path : Text → Text
package_path folder = path_of folder (codes "package.json")

-- a name that is depended on, and the version, where it is a text
abbrev pub wanted_text : Text → Option Text → Text
wanted_text name None = name
wanted_text name (Some version) = joined (name ∷ codes " " ∷ version ∷ [])

abbrev pub lacking_text : Text → Option Text → Text
lacking_text name version = joined (codes "it depends on " ∷ wanted_text name version ∷ codes ", which no folder is" ∷ [])

abbrev pub version_text_of : Text → Text → Text → Option Text → Text
version_text_of name version found found_version =
    joined (codes "it depends on " ∷ wanted_text name (Some version) ∷ codes ", and " ∷ found ∷ codes " has " ∷ version_text found_version ∷ [])

abbrev pub package_line : Text → Text → LineValue
package_line folder text = file_line (package_path folder) None text

abbrev pub note_folder : Note → Text
note_folder (no_name folder) = folder
note_folder (lacking folder name version) = folder
note_folder (other folder name version found found_version) = folder

abbrev pub note_line : Note → LineValue
note_line (no_name folder) = package_line folder (codes "it has no name")
note_line (lacking folder name version) = package_line folder (lacking_text name version)
note_line (other folder name version found found_version) = package_line folder (version_text_of name version found found_version)

abbrev pub note_rows : List Note → Text
note_rows ns = flat_map (λ n. row AsText (note_line n)) ns

-- ---- all of it

-- how many folders, files and definitions were read, and how many of these are kept
pub record CountsValue : Type 0 where
  pub folders : ℕ
  pub files : ℕ
  pub definitions : ℕ
  pub kept : ℕ

abbrev pub read_text : CountsValue → Text
read_text c =
    joined
    (codes "folders: " ∷ decimal c.folders ∷ codes ", files: " ∷ decimal c.files ∷ codes ", definitions: " ∷ decimal c.definitions ∷ [])

abbrev pub kept_text : CountsValue → List Dropped → Text
kept_text c ds =
    joined
    (codes ", kept: " ∷ decimal c.kept ∷ codes ", dropped: " ∷ decimal (length ds) ∷ codes ", equal: "
    ∷ decimal (count_by (λ d. d.is_equal) ds) ∷ [])

abbrev pub counts_text : CountsValue → List Dropped → Text
counts_text c ds = joined (read_text c ∷ kept_text c ds ∷ [])

-- a row for each definition that isn't kept and is told, for each note, and a last one with the counts
abbrev pub gather_text : Detail → CountsValue → List Dropped → List Note → Text
gather_text detail c ds ns = dropped_rows detail ds ++ note_rows ns ++ row AsText (text_line (counts_text c ds))
