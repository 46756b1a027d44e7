use Rattle.std.proofs.Common.{◌≡◌, ◌++◌, map, drop, string_bytes, Some}
use Rattle.std.specs.List.{flat_map}
use Rattle.fhir_certificate.specs.Format.{pair_text}
use Rattle.fhir_certificate.specs.Writing.{kids_line}
use Rattle.fhir_certificate.proofs.writing.put_kids.Given as goal

abbrev pub invariant-loop-pair : goal.invariant-loop-pair
invariant-loop-pair l =
    string_bytes l.out ++ flat_map (pair_text (Some l.numbers)) (map (kids_line l.schema) (drop l.pair-index l.pairs))
    ≡ string_bytes l.initial.out ++ flat_map (pair_text (Some l.numbers)) (map (kids_line l.schema) l.pairs)
