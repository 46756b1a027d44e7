-- Where chains of bases are after so many steps (used by private contracts, and by the laws of `further_laws`).
use Rattle.std.specs.Prelude.{ℕ, zero, suc, List, map, Option}
use Rattle.std.specs.Option.{option_and_then}
use Rattle.fhir_definition.specs.Definition.{Definition}
use Rattle.fhir_schema.specs.Settling.{base_place, base_of_place}

-- so many steps from a place on
abbrev pub base_after : List Definition → ℕ → Option ℕ → Option ℕ
base_after ds zero place = place
base_after ds (suc n) place = base_after ds n (option_and_then (base_of_place ds) place)

-- so many steps from the base of each definition on
abbrev pub bases_after : List Definition → ℕ → List (Option ℕ)
bases_after ds n = map (λ d. base_after ds n (base_place ds d)) ds
