use Rattle.std.proofs.Common.{◌≡◌, map, take}
use Rattle.fhir_archives.specs.Archives.{all_named}
use Rattle.fhir_archives.specs.Views.{archive_seen, named_seen}
use Rattle.fhir_archives.proofs.archive.all_named.Given as goal

abbrev pub invariant-loop-archive : goal.invariant-loop-archive
invariant-loop-archive l = map named_seen l.all.items ≡ all_named (map archive_seen (take l.archive-index l.archives))
