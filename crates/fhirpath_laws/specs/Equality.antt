-- Values of two collections, pair by pair (FHIRPath N1, section 6.1).
use Rattle.std.specs.Prelude.{List, Bool, not, false, None, Some}
use Rattle.std.specs.List.{list_all, list_any, zip}
use Rattle.fhir_fp_values.specs.Values.{Plain}
use Rattle.fhir_fp_values.specs.Equality.{Kleene, alike, is_yes}

-- it is told, and isn't so
abbrev pub is_no : Kleene → Bool
is_no (Some b) = not b
is_no None = false

-- each value is equal to its fellow
abbrev pub are_alike : List Plain → List Plain → Bool
are_alike vs us = list_all (λ p. is_yes (alike p.0 p.1)) (zip vs us)

-- some value isn't equal to its fellow
abbrev pub are_told_apart : List Plain → List Plain → Bool
are_told_apart vs us = list_any (λ p. is_no (alike p.0 p.1)) (zip vs us)
