use Rattle.std.proofs.Common.{map, string_bytes, sym, ◌∙◌}
use Rattle.std.specs.Option.{option_map}
use Rattle.fhir_answers.specs.Session.{schema_in}
use Rattle.fhir_audit.specs.Auditing.{are_narrowing}
use Rattle.fhir_audit.specs.Views.{all_audited}
use Rattle.fhir_audit_engine.specs.Told.{are_held}
use Rattle.fhir_audit_engine.proofs.Promised.{narrowing}
use Rattle.fhir_audit_engine.proofs.Ended.{narrow_if_yes}
use Rattle.fhir_audit_engine.proofs.Rechecked.{audit_of}
use Rattle.fhir_audit_engine.proofs.running.run_vouched.Goals as goal

pub returns-clause-narrow : goal.returns-clause-narrow
returns-clause-narrow g c = λ is.
    let prefixes = map string_bytes c.args.asked.prefixes.now in
    let given = option_map (λ texts. texts.now) c.args.given in
    let told = all_audited c.in_ok-profiles.profiles.items in
    let held = option_map (λ f. f.now) c.as_deref-held.result in
    let s = c.sources_of-sources.result.schema.now in
    let v = c.sources_of-sources.result.survey.now in
    narrowing prefixes given (schema_in c.args.session.now) s c.args.session.now.survey v told c.sources_of-sources.ensures.schema
    c.sources_of-sources.ensures.survey (c.narrowing_profiles.ensures prefixes given s v told) c.in_ok-profiles.ensures
    (narrow_if_yes (are_narrowing told) (are_held held) (sym is ∙ rw c.as_slice-audited.ensures.value at c.status_of.ensures))

pub returns-clause-told : goal.returns-clause-told
returns-clause-told g c =
    let text = string_bytes c.in_ok-text.text in (
      text,
      audit_of (map string_bytes c.args.asked.prefixes.now) c.args.asked.format (option_map (λ f. f.now) c.args.asked.held)
          (option_map (λ texts. texts.now) c.args.given) (schema_in c.args.session.now) c.sources_of-sources.result.schema.now c.args.session.now.survey
          c.sources_of-sources.result.survey.now c.in_ok-profiles.profiles.items c.as_slice-audited.result.now (option_map (λ v. v.items) c.in_ok-held.held)
          (option_map (λ f. f.now) c.as_deref-held.result) c.status_of.result text c.sources_of-sources.ensures.schema c.sources_of-sources.ensures.survey
          c.as_slice-audited.ensures.value c.as_deref-held.ensures.value c.in_ok-profiles.ensures c.in_ok-held.ensures c.status_of.ensures c.in_ok-text.ensures,
      rw c.as_str.ensures.value at c.in_ok-put.ensures,
    )
