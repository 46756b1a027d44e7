use Rattle.std.proofs.Common.{◌≡◌, not, is_some, map, drop, string_bytes}
use Rattle.std.specs.List.{list_any}
use Rattle.fhir_names.specs.Places.{place_of}
use Rattle.fhir_inheritance.proofs.texts.any_without_place.Given as goal

abbrev pub invariant-loop-text : goal.invariant-loop-text
invariant-loop-text l =
    list_any (λ t. not (is_some (place_of l.places t))) (map string_bytes (drop l.text-index l.texts))
    ≡ list_any (λ t. not (is_some (place_of l.places t))) (map string_bytes l.texts)
