use Rattle.std.proofs.Common.{List, ap, ◌∙◌}
use Rattle.std.specs.List.{list_any}
use Rattle.fhir_audit_lines.proofs.Urls.{Urls, are, any-insert_key}
use Rattle.fhir_audit_lines.proofs.without.put_urls.Goals as goal

pub returns : goal.returns
returns c = λ d b.
    ap (λ (ks : List Urls). list_any (are d b) ks) c.in_ok-insert.ensures.keys ∙ any-insert_key d b (c.args.derived, c.args.base) c.args.urls.now.keys
