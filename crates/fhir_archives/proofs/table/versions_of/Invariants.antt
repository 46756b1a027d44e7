use Rattle.std.proofs.Common.{map, take}
use Rattle.fhir_archives.specs.Known.{Knows}
use Rattle.fhir_archives.specs.Views.{named_seen}
use Rattle.fhir_archives.proofs.table.versions_of.Given as goal

abbrev pub invariant-loop-named : goal.invariant-loop-named
invariant-loop-named l = Knows l.versions (map named_seen (take l.named-index l.all))
