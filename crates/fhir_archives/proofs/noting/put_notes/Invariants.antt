use Rattle.std.proofs.Common.{◌≡◌, ◌++◌, map, take}
use Rattle.std.specs.Prelude.{filter_map}
use Rattle.fhir_archives.specs.Archives.{nameless, note_of}
use Rattle.fhir_archives.specs.Views.{archive_seen, dependency_seen, note_seen}
use Rattle.fhir_archives.proofs.noting.put_notes.Given as goal

abbrev pub invariant-loop-dependency : goal.invariant-loop-dependency
invariant-loop-dependency l =
    map note_seen l.notes.items
    ≡ map note_seen l.fn.notes.items ++ nameless (archive_seen l.archive)
    ++ filter_map (note_of l.table l.archive.folder.now) (map dependency_seen (take l.dependency-index l.dependency-items))
