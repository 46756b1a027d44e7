-- How the keys are found: a list of keys that grows as the definitions of each are looked at in turn.
use Rattle.std.specs.Prelude.{◌≡◌, ℕ, zero, suc, List, [], ◌++◌, length}
use Rattle.std.specs.Option.{option_map_or}
use Rattle.std.specs.List.{flat_map, slice_get}
use Rattle.fhir_package.specs.Definitions.{Definitions}
use Rattle.fhir_reach.specs.Keys.{KeyValue, with_keys}
use Rattle.fhir_reach.specs.Naming.{structure_keys, value_set_keys}
use Rattle.fhir_reach.specs.Reach.{named_by}

-- what the definitions of the key at place n name, behind what was found and each once
abbrev pub visited : Definitions → List KeyValue → ℕ → List KeyValue
visited p found n = option_map_or (λ k. with_keys found (named_by p k)) (slice_get found n) found

-- what is found once the first n keys were looked at, in order
abbrev pub found_after : Definitions → List KeyValue → ℕ → List KeyValue
found_after p start zero = with_keys [] start
found_after p start (suc n) = visited p (found_after p start n) n

-- all that the definitions name
abbrev pub all_named : Definitions → List KeyValue
all_named p = flat_map (λ e. structure_keys e.1) p.structure_definitions ++ flat_map (λ e. value_set_keys e.1) p.value_sets

-- what is found once as many were looked at as there can be
unfoldable pub reached : Definitions → List KeyValue → List KeyValue
reached p start = found_after p start (length (start ++ all_named p))

abbrev pub IsFound : Definitions → List KeyValue → List KeyValue → Type 0
IsFound p start found = found ≡ found_after p start (length found)
