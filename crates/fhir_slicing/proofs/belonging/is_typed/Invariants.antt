use Rattle.std.proofs.Common.{◌≡◌, drop, map}
use Rattle.std.specs.Prelude.{string_bytes}
use Rattle.fhir_instance.specs.View.{item_of}
use Rattle.fhir_slicing.specs.Belonging.{is_typed}
use Rattle.fhir_slicing.proofs.belonging.is_typed.Given as goal

abbrev pub invariant-loop-code : goal.invariant-loop-code
invariant-loop-code l =
    is_typed l.schema (map string_bytes (drop l.code-index l.codes)) (item_of l.item) ≡ is_typed l.schema (map string_bytes l.codes) (item_of l.item)
