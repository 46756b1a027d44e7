use Rattle.std.proofs.Common.{sym, subst}
use Rattle.fhir_gather.specs.Making.{folders_of, IsMade, LoadsFirst}
use Rattle.fhir_engine.proofs.gathering.gather_folders.Goals as goal

pub returns-in-Ok-clause-made : goal.returns-in-Ok-clause-made
returns-in-Ok-clause-made g c = λ yes.
    let folders = folders_of g.F.Folder.files c.args.folders.items in
    let same = sym (c.tell.ensures.finished yes) in
    record {
      told = c.in-Ok.gathered;
      made = subst (λ whole. IsMade folders whole c.in-Ok.gathered) same c.in-Ok.ensures.made;
      loads = subst (LoadsFirst folders) same c.in-Ok.ensures.loads;
      appended = c.tell.ensures.printed yes;
    }
