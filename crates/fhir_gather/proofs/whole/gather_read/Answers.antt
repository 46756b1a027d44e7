use Rattle.std.proofs.Common.{refl}
use Rattle.std.proofs.lemmas.Result.{err_from_is_err_and}
use Rattle.fhir_gather.specs.Views.{all_seen}
use Rattle.fhir_gather.specs.FolderViews.{read_folders}
use Rattle.fhir_gather.specs.Making.{Tells}
use Rattle.fhir_gather.proofs.Makings.{refused_lem, made_lem}
use Rattle.fhir_gather.proofs.whole.gather_read.Goals as goal

pub returns-in_err-gathering-clause-refused : goal.returns-in_err-gathering-clause-refused
returns-in_err-gathering-clause-refused g c = λ xs are.
    let p = err_from_is_err_and c.from_residual.result c.from_residual.ensures.1 in
    rw (p.1, p.2) (refused_lem xs (read_folders c.args.folders.now) _ are c.in_err-gathering.ensures)

pub returns-clause-made : goal.returns-clause-made
returns-clause-made g c = λ xs are.
    let told : Tells c.count_folders.result c.in_ok-count_files.field-0 c.in_ok-gathering.gathering c.in_ok-told.told =
    rw (← c.gathering.view_is) c.in_ok-told.ensures in
    made_lem xs (read_folders c.args.folders.now) c.in_ok-gathering.gathering c.in_ok-told.told (g.N.NewFolder.part c.args.out.now)
    (g.N.NewFolder.part c.write_each.new.out) (g.N.NewFolder.part c.write_each.new.out) (all_seen c.kept.result.now) c.count_folders.result
    c.in_ok-count_files.field-0 are c.in_ok-gathering.ensures c.kept.ensures c.requires c.in_ok-write_each.ensures.written refl
    c.count_folders.ensures c.in_ok-count_files.ensures told
