use Rattle.std.proofs.Common.{◌≡◌, map, take}
use Rattle.std.specs.List.{flat_map}
use Rattle.fhir_archives.specs.Archives.{all_named, notes_of}
use Rattle.fhir_archives.specs.Views.{archive_seen, note_seen}
use Rattle.fhir_archives.proofs.noting.notes.Given as goal

abbrev pub invariant-loop-archive : goal.invariant-loop-archive
invariant-loop-archive l =
    map note_seen l.notes.items ≡ flat_map (notes_of (all_named (map archive_seen l.archives))) (map archive_seen (take l.archive-index l.archives))
