use Rattle.std.proofs.Common.{◌≡◌, take, filter}
use Rattle.std.specs.Str.{bytes_eq}
use Rattle.fhir_json.specs.Tree.{Text}
use Rattle.fhir_findings.specs.Views.{carriers_seen}
use Rattle.fhir_audit.specs.Kept.{kept_under}
use Rattle.fhir_audit.proofs.carrying.grouped.Given as goal

abbrev pub invariant-loop-carrier : goal.invariant-loop-carrier
invariant-loop-carrier l =
    (url : Text) → carriers_seen (kept_under url l.groups) ≡ filter (λ z. bytes_eq url z.url) (carriers_seen (take l.carrier-index l.carriers))
