use Rattle.std.proofs.Common.{◌≡◌, ◌++◌, map, take, string_bytes}
use Rattle.fhir_audit_lines.specs.Telling.{unread_lines}
use Rattle.fhir_audit_lines.proofs.texts.push_unread.Given as goal

abbrev pub invariant-loop-text : goal.invariant-loop-text
invariant-loop-text l =
    map string_bytes l.into.items ≡ map string_bytes l.fn.into.items ++ unread_lines (map string_bytes (take l.text-index l.texts))
