use Rattle.std.proofs.Common.{map, string_bytes}
use Rattle.fhir_lines.proofs.OnEach.{SoFar}
use Rattle.fhir_audit_lines.specs.Held.{held_seen, AreOnFile}
use Rattle.fhir_audit_lines.proofs.held_lines.lines_on_files.Given as goal

abbrev pub invariant-loop-file : goal.invariant-loop-file
invariant-loop-file l = SoFar (AreOnFile l.format l.schema) held_seen l.files l.file-index (map string_bytes l.lines.items)
