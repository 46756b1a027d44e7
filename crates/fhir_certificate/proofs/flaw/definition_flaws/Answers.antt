use Rattle.std.proofs.Common.{◌≡◌, true, false, map, Some, sym, ap, ◌∙◌}
use Rattle.std.specs.List.{list_all}
use Rattle.std.specs.Option.{option_map_or}
use Rattle.fhir_certificate.specs.Judging.{has_version}
use Rattle.fhir_certificate.specs.Views.{all_stated, stated_seen}
use Rattle.fhir_certificate.proofs.Flawed.{versions_answered}
use Rattle.fhir_certificate.proofs.flaw.definition_flaws.Goals as goal

pub returns-in-Some : goal.returns-in-Some
returns-in-Some c = λ e.
    let has = has_version c.args.schema.now in
    let self : c.args.definitions.now ≡ Some (map stated_seen c.in-Some.stated.items) = sym c.definitions.view_is ∙ ap all_stated c.in-Some.is in
    let own : list_all has (map stated_seen c.deref.result.now) ≡ false =
    ap (λ l. list_all has (map stated_seen l)) c.deref.ensures.value ∙ ap (λ ds. option_map_or (list_all has) ds true) (sym self) ∙ e in
    versions_answered (λ flaws. flaws.items) c.wrong_versions.result (list_all has (map stated_seen c.deref.result.now)) c.wrong_versions.ensures.versions
    c.wrong_versions.ensures.none own
