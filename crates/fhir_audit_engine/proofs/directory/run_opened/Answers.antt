use Rattle.std.proofs.Common.{map, string_bytes, ap, ◌∙◌}
use Rattle.std.specs.Prelude.{is_some, option_map}
use Rattle.fhir_engine.specs.declared.refusal.Refusal.TheVariants as refusals
use Rattle.fhir_engine.specs.Serving.{file_seen}
use Rattle.fhir_package.specs.Memory.{files_of}
use Rattle.fhir_audit_engine.proofs.Ended.{still_some, ended_read, run_read}
use Rattle.fhir_audit_engine.proofs.directory.run_opened.Goals as goal

pub returns-in-Ok : goal.returns-in-Ok
returns-in-Ok g c =
    let asked = c.asked_of-asked.result in
    let same = c.asked_of-asked.ensures in
    run_read _ (map string_bytes asked.prefixes.now) _ asked.format _ _ (files_of c.args.opened.folder) (file_seen asked.given)
    (option_map (λ f. f.now) asked.held) _ _ _ (ap (map string_bytes) same.prefixes) same.format same.given (ap is_some same.held ∙ still_some _ c.as_deref-2.result ∙ c.as_deref-2.ensures.variant ∙ c.requires)
    c.audit_folder.ensures.told c.audit_folder.ensures.promised

pub returns-in-Err : goal.returns-in-Err
returns-in-Err g c = ended_read _ _ _ _ _ _ refusals.NoMemory _ c.end_with.ensures
