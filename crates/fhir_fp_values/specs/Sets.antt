-- Lists in which each value stands once (FHIRPath N1, sections 5.3 and 6.4).
use Rattle.std.specs.Prelude.{List, [], ◌∷◌, ◌++◌, if◌then◌else◌}
use Rattle.fhir_fp_values.specs.Values.{Plain}
use Rattle.fhir_fp_values.specs.Equality.{has}

-- what stands once
abbrev pub add : List Plain → Plain → List Plain
add seen x = if has seen x then seen else seen ++ x ∷ []

unfoldable pub joined : List Plain → List Plain → List Plain
joined seen [] = seen
joined seen (x ∷ xs) = joined (add seen x) xs

-- those of the list that are in ws, once
unfoldable pub shared : List Plain → List Plain → List Plain → List Plain
shared ws seen [] = seen
shared ws seen (x ∷ xs) = shared ws (if has ws x then add seen x else seen) xs
