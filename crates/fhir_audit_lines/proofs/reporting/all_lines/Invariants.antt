use Rattle.std.proofs.Common.{map, string_bytes}
use Rattle.fhir_audit.specs.Views.{audited_seen}
use Rattle.fhir_lines.proofs.OnEach.{SoFar}
use Rattle.fhir_audit_lines.specs.Report.{IsTold}
use Rattle.fhir_audit_lines.proofs.reporting.all_lines.Given as goal

abbrev pub invariant-loop-one : goal.invariant-loop-one
invariant-loop-one l = SoFar (IsTold l.format l.sources.schema.now) audited_seen l.audited l.one-index (map string_bytes l.lines.items)
