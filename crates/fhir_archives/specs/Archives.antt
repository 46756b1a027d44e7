-- What is noted of archives: folders that a published package was unpacked to, each with its `package.json`. That is an object with
-- texts `name` and `version`, and an object `dependencies` from names to texts of versions.
use Rattle.std.specs.Prelude.{◌++◌, List, [], ◌∷◌, map, filter_map, find, Bool, false, ◌&&◌, Option, None, Some, is_some, if◌then◌else◌, codes}
use Rattle.std.specs.Option.{option_map, option_map_or, option_and_then}
use Rattle.std.specs.List.{flat_map, list_any}
use Rattle.std.specs.Str.{bytes_eq}
use Rattle.fhir_json.specs.Tree.{Text, Tree, Property, properties_of}
use Rattle.fhir_json.specs.Fields.{field, members_in, as_text, text_in}

-- ---- an archive

-- the name of the folder, and the tree of its package.json
abbrev pub Archive : Type 0
Archive = Text × Tree

-- its name and its version, where they are texts
abbrev pub name_of : Archive → Option Text
name_of a = text_in (codes "name") a.1

abbrev pub version_of : Archive → Option Text
version_of a = text_in (codes "version") a.1

-- a name that an archive depends on, and the version of it, where that is a text
pub record Dependency : Type 0 where
  pub name : Text
  pub version : Option Text

abbrev pub dependency : Property → Dependency
dependency p = record { name = p.0; version = as_text p.1 }

-- what an archive depends on, in the order of the object
abbrev pub dependencies_of : Archive → List Dependency
dependencies_of a = map dependency (option_map_or (λ d. properties_of (members_in d)) (field (codes "dependencies") a.1) [])

-- ---- the archives that have a name

-- an archive with its name: the name of its folder, and its version
pub record Named : Type 0 where
  pub folder : Text
  pub name : Text
  pub version : Option Text

abbrev pub named : Archive → Option Named
named a = option_map (λ name. record { folder = a.0; name = name; version = version_of a }) (name_of a)

abbrev pub all_named : List Archive → List Named
all_named archives = filter_map named archives

-- whether it has that name, and that version
abbrev pub is_of : Text → Named → Bool
is_of name n = bytes_eq name n.name

abbrev pub is_version : Text → Named → Bool
is_version version n = option_map_or (λ v. bytes_eq version v) n.version false

-- the first of a name
abbrev pub first_of : Text → List Named → Option Named
first_of name ns = find (is_of name) ns

-- whether one has that name and that version
abbrev pub has_version : Text → Text → List Named → Bool
has_version name version ns = list_any (λ n. is_of name n && is_version version n) ns

-- ---- the notes

-- an archive that has no name; a dependency of one whose name none has; and one whose name some have, and none with that version: with
-- the folder and the version of the first of that name
pub data Note : Type 0 where
  no_name : (folder : Text) → Note
  lacking : (folder : Text) (name : Text) (version : Option Text) → Note
  other : (folder : Text) (name : Text) (version : Text) (found_folder : Text) (found_version : Option Text) → Note

-- the version that a dependency asks for, where no archive of its name has it
abbrev pub missing : List Named → Dependency → Option Text
missing ns d = option_and_then (λ version. if has_version d.name version ns then None else Some version) d.version

-- of a dependency, by the first archive of its name
abbrev pub note_beside : List Named → Text → Dependency → Option Named → Option Note
note_beside ns folder d None = Some (lacking folder d.name d.version)
note_beside ns folder d (Some first) = option_map (λ version. other folder d.name version first.folder first.version) (missing ns d)

-- of a dependency of the archive in that folder, among these archives
abbrev pub note_of : List Named → Text → Dependency → Option Note
note_of ns folder d = note_beside ns folder d (first_of d.name ns)

-- of an archive that has no name
abbrev pub nameless : Archive → List Note
nameless a = if is_some (name_of a) then [] else no_name a.0 ∷ []

-- of an archive: that it has no name, and then its dependencies, in their order
abbrev pub notes_of : List Named → Archive → List Note
notes_of ns a = nameless a ++ filter_map (note_of ns a.0) (dependencies_of a)

-- of archives in turn
abbrev pub notes : List Archive → List Note
notes archives = flat_map (notes_of (all_named archives)) archives
