use Rattle.std.proofs.Common.{◌≡◌, drop, map}
use Rattle.std.specs.Prelude.{string_bytes}
use Rattle.std.specs.Str.{bytes_eq}
use Rattle.fhir_slicing.specs.SameCriteria.{same_lists}
use Rattle.fhir_slicing.proofs.sameness.same_texts.Given as goal

abbrev pub invariant-loop-text : goal.invariant-loop-text
invariant-loop-text l = same_lists bytes_eq (map string_bytes (drop l.text-index l.texts)) (map string_bytes l.rest) ≡ same_lists bytes_eq (map string_bytes l.texts) (map string_bytes l.others)
