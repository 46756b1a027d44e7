use Rattle.std.proofs.Common.{List, ◌++◌, map, string_bytes, ap, ◌∙◌}
use Rattle.fhir_json.specs.Tree.{Text}
use Rattle.fhir_audit.specs.Views.{all_audited}
use Rattle.fhir_audit_lines.specs.Held.{held_seen}
use Rattle.fhir_audit_lines.proofs.Urls.{missing_are}
use Rattle.fhir_audit_lines.proofs.without.push_without.Goals as goal

pub returns : goal.returns
returns c =
    c.in_ok-push_missing.ensures
    ∙ ap (λ (ls : List Text). map string_bytes c.args.into.now.items ++ ls)
    (missing_are c.args.format (map held_seen c.args.files.now) c.in_ok-urls.urls (all_audited c.args.audited.now) c.in_ok-urls.ensures)
