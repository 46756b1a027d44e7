-- What contracts see of archives and of notes.
use Rattle.std.specs.Prelude.{Option, String, string_bytes}
use Rattle.std.specs.Option.{option_map}
use Rattle.std.specs.declared.alloc.Global.{Global}
use Rattle.fhir_json.specs.Tree.{Text}
use Rattle.fhir_json.specs.Views.{tree_of, property_of, text_seen}
use Rattle.fhir_json.specs.declared.json.Member.{Member}
use Rattle.fhir_archives.specs.declared.archive.PackageJson.{PackageJson}
use Rattle.fhir_archives.specs.declared.noting.Note.{Note}
use Rattle.fhir_archives.specs.declared.noting.Note.TheVariants.{NoName, Lacking, Other}
use Rattle.fhir_archives.specs.declared.table.Named.{Named}
use Rattle.fhir_archives.specs.Archives as archives

abbrev pub archive_seen : PackageJson → archives.Archive
archive_seen p = (p.folder.now, tree_of p.json.now)

abbrev pub named_seen : Named → archives.Named
named_seen n = record { folder = n.folder.now; name = n.name.now; version = text_seen n.version }

-- a member of `dependencies`
abbrev pub dependency_seen : Member → archives.Dependency
dependency_seen m = archives.dependency (property_of m)

abbrev pub owned_seen : Option (String Global) → Option Text
owned_seen text = option_map string_bytes text

abbrev pub note_seen : Note → archives.Note
note_seen (NoName folder) = archives.no_name (string_bytes folder)
note_seen (Lacking folder name version) = archives.lacking (string_bytes folder) (string_bytes name) (owned_seen version)
note_seen (Other folder name version found) =
    archives.other (string_bytes folder) (string_bytes name) (string_bytes version) (string_bytes found.folder) (owned_seen found.version)
