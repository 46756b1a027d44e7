use Rattle.std.proofs.Common.{arith}
use Rattle.std.proofs.lemmas.Grind.{common_steps}
use Rattle.fhir_archives.specs.Archives.{note_of}
use Rattle.fhir_archives.specs.Views.{dependency_seen}
use Rattle.fhir_archives.proofs.Steps.{filter_map_more}
use Rattle.fhir_archives.proofs.noting.put_notes.Goals as goal

pub loop-dependency-preserved : goal.loop-dependency-preserved
loop-dependency-preserved c =
    let item = c.dependency-item.result in
    let more = filter_map_more (note_of c.args.table.now c.args.archive.now.folder.now) dependency_seen c.dependencies-dependency-items.result.now
    c.loop-dependency.dependency-index item c.loop-dependency-test.true in
    grind (arith, common_steps, more, c.in_ok-put_dependency.ensures, c.dependency-item.is, c.loop-dependency.invariant)
