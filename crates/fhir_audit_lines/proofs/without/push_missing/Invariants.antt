use Rattle.std.proofs.Common.{◌≡◌, ◌++◌, map, drop, string_bytes}
use Rattle.fhir_audit.specs.Views.{all_audited}
use Rattle.fhir_audit_lines.specs.Urls.{missing_lines}
use Rattle.fhir_audit_lines.proofs.without.push_missing.Given as goal

abbrev pub invariant-loop-one : goal.invariant-loop-one
invariant-loop-one l =
    map string_bytes l.into.items ++ missing_lines l.format l.urls (all_audited (drop l.one-index l.audited))
    ≡ map string_bytes l.initial.into.items ++ missing_lines l.format l.urls (all_audited l.audited)
