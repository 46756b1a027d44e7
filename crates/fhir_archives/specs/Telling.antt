-- What the notes on archives say of these.
use Rattle.std.specs.Prelude.{◌≡◌, ◌≢◌, ◌++◌, ◌⊎◌, List, ◌∷◌, Option, None, Some, All, Contains}
use Rattle.fhir_json.specs.Tree.{Text}
use Rattle.fhir_archives.specs.Archives.{Archive, name_of, version_of, Dependency, dependencies_of, Note, no_name, lacking, other}

-- an archive meets a dependency: it has the name and, if the dependency is on a version, that one
abbrev pub Meets : Dependency → Archive → Type 0
Meets d a = (name_of a ≡ Some d.name) × ((d.version ≡ None) ⊎ (version_of a ≡ d.version))

-- none of the archives does
abbrev pub IsUnmet : List Archive → Dependency → Type 0
IsUnmet archives d = All (λ a. ¬ (Meets d a)) archives

-- the first archive of a name is in that folder, and has that version
pub record IsFirst (archives : List Archive) (name folder : Text) (version : Option Text) : Type 0 where
  pub before : List Archive
  pub first : Archive
  pub behind : List Archive
  pub stands : archives ≡ before ++ first ∷ behind
  pub none_before : All (λ a. name_of a ≢ Some name) before
  pub named : name_of first ≡ Some name
  pub in_folder : first.0 ≡ folder
  pub of_version : version_of first ≡ version

-- the note tells a dependency of the archive in that folder
abbrev pub Tells : Text → Dependency → Note → Type 0
Tells folder d (no_name f) = ⊥
Tells folder d (lacking f name version) = (f ≡ folder) × (name ≡ d.name) × (version ≡ d.version)
Tells folder d (other f name version found_folder found_version) = (f ≡ folder) × (name ≡ d.name) × (Some version ≡ d.version)

-- the note is true of an archive among these: it has no name; it depends on a name that none has; or on a version that none of the name
-- has, and the first of that name is the one told
abbrev pub IsTrueOf : List Archive → Archive → Note → Type 0
IsTrueOf archives a (no_name folder) = (folder ≡ a.0) × (name_of a ≡ None)
IsTrueOf archives a (lacking folder name version) =
    (folder ≡ a.0) × Contains (dependencies_of a) (record { name = name; version = version }) × All (λ b. name_of b ≢ Some name) archives
IsTrueOf archives a (other folder name version found_folder found_version) =
    (folder ≡ a.0) × Contains (dependencies_of a) (record { name = name; version = Some version })
    × IsUnmet archives (record { name = name; version = Some version })
    × IsFirst archives name found_folder found_version
