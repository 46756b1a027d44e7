use Rattle.std.proofs.Common.{◌≡◌, drop, map, string_bytes}
use Rattle.fhir_findings.specs.Selecting.{is_own}
use Rattle.fhir_audit.proofs.above.is_own.Given as goal

abbrev pub invariant-loop-prefix : goal.invariant-loop-prefix
invariant-loop-prefix l = is_own (map string_bytes (drop l.prefix-index l.prefixes)) l.url ≡ is_own (map string_bytes l.prefixes) l.url
