use Rattle.std.proofs.Common.{◌≡◌, map, take, string_bytes}
use Rattle.fhir_audit_lines.specs.Naming.{name_byte}
use Rattle.fhir_audit_lines.proofs.naming.front_of.Given as goal

abbrev pub invariant-loop-byte : goal.invariant-loop-byte
invariant-loop-byte l = string_bytes l.front ≡ map name_byte (take l.byte-index l.byte-items)
