use Rattle.std.proofs.Common.{◌≡◌, ◌++◌, drop, map, flat_map, string_bytes}
use Rattle.fhir_markup.specs.Markup.{attribute_text}
use Rattle.fhir_markup.specs.Views.{attribute_of}
use Rattle.fhir_markup.proofs.writing.push_attributes.Given as goal

abbrev pub invariant-loop-attribute : goal.invariant-loop-attribute
invariant-loop-attribute l =
    string_bytes l.into ++ flat_map attribute_text (map attribute_of (drop l.attribute-index l.attributes))
    ≡ string_bytes l.fn.into ++ flat_map attribute_text (map attribute_of l.attributes)
