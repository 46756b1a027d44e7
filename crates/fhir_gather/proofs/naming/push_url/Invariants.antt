use Rattle.std.proofs.Common.{◌≡◌, ◌++◌, map, drop, string_bytes}
use Rattle.fhir_gather.specs.Written.{name_byte}
use Rattle.fhir_gather.proofs.naming.push_url.Given as goal

abbrev pub invariant-loop-byte : goal.invariant-loop-byte
invariant-loop-byte l =
    string_bytes l.fn.out ++ map name_byte l.byte-items ≡ string_bytes l.out ++ map name_byte (drop l.byte-index l.byte-items)
