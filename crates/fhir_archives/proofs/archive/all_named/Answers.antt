use Rattle.fhir_archives.specs.Archives.{named}
use Rattle.fhir_archives.specs.Views.{archive_seen}
use Rattle.fhir_archives.proofs.Steps.{filter_map_more}
use Rattle.fhir_archives.proofs.archive.all_named.Goals as goal

pub loop-archive-preserved : goal.loop-archive-preserved
loop-archive-preserved c =
    let item = c.archive-item.result in
    let more = filter_map_more named archive_seen c.args.archives.now c.loop-archive.archive-index item c.loop-archive-test.true in
    cc (more, c.in_ok-put_named.ensures, c.archive-item.is, c.loop-archive.invariant)
