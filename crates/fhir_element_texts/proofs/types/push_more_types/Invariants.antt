use Rattle.std.proofs.Common.{◌≡◌, ◌++◌, flat_map, drop, codes, string_bytes}
use Rattle.fhir_element_texts.specs.Texts.{type_text}
use Rattle.fhir_element_texts.proofs.types.push_more_types.Given as goal

abbrev pub invariant-loop-entry : goal.invariant-loop-entry
invariant-loop-entry l =
    string_bytes l.into ++ flat_map (λ e. codes ", " ++ type_text e) (drop l.entry-index l.entries)
    ≡ string_bytes l.fn.into ++ flat_map (λ e. codes ", " ++ type_text e) l.entries
