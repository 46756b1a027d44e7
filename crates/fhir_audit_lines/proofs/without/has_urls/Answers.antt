use Rattle.std.proofs.Common.{◌∙◌}
use Rattle.fhir_audit_lines.proofs.Urls.{any_are}
use Rattle.fhir_audit_lines.proofs.without.has_urls.Goals as goal

pub returns : goal.returns
returns c = c.contains.ensures ∙ any_are (c.args.derived, c.args.base) c.args.urls.now.keys
