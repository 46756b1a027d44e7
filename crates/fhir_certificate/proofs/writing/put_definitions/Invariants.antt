use Rattle.std.proofs.Common.{◌≡◌, ◌++◌, map, drop, string_bytes}
use Rattle.fhir_certificate.specs.Format.{definitions_text}
use Rattle.fhir_certificate.specs.Writing.{stated}
use Rattle.fhir_certificate.specs.Numbering.{texts_seen}
use Rattle.fhir_certificate.proofs.writing.put_definitions.Given as goal

abbrev pub invariant-loop-number : goal.invariant-loop-number
invariant-loop-number l =
    string_bytes l.out ++ definitions_text l.number (map (stated l.schema) (texts_seen (drop l.number l.urls)))
    ≡ string_bytes l.initial.out ++ definitions_text 0 (map (stated l.schema) (texts_seen l.urls))
