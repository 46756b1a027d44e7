-- Files `package.json`, each of a folder.
use Rattle.std.specs.Prelude.{[], ◌∷◌, Option, codes}
use Rattle.fhir_json.specs.Tree.{Text, string, number}
use Rattle.fhir_archives.specs.Archives.{Archive, Dependency}
use Rattle.tool_laws.specs.Trees.{fields}

-- on one package in a version, and on one in a version that is no text
abbrev pub guide : Archive
guide = (
  codes "guide",
  fields ((codes "name", string (codes "example.guide"))
      ∷ (codes "version", string (codes "1.2.0"))
      ∷ (codes "fhirVersions", string (codes "4.0.1"))
      ∷ (codes "dependencies", fields ((codes "hl7.fhir.r4.core", string (codes "4.0.1")) ∷ (codes "example.base", number (codes "1")) ∷ []))
      ∷ (codes "devDependencies", fields ((codes "example.tool", string (codes "9")) ∷ []))
      ∷ []),
)

abbrev pub nothing_said : Archive
nothing_said = (codes "folder", fields ((codes "title", string (codes "A guide")) ∷ []))

abbrev pub depends : Text → Option Text → Dependency
depends name version = record { name = name; version = version }

-- a guide that depends on the definitions of FHIR in a version, and these in a version
abbrev pub guide_on : Text → Archive
guide_on version = (
  codes "guide",
  fields ((codes "name", string (codes "example.guide")) ∷ (codes "dependencies", fields ((codes "hl7.fhir.r4.core", string version) ∷ [])) ∷ []),
)

abbrev pub core_of : Text → Text → Archive
core_of folder version = (folder, fields ((codes "name", string (codes "hl7.fhir.r4.core")) ∷ (codes "version", string version) ∷ []))

abbrev pub nameless : Archive
nameless = (codes "folder", fields ((codes "version", string (codes "1")) ∷ []))
