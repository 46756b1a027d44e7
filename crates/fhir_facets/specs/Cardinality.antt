-- How many items there may be (FHIR R4, ElementDefinition, min and max).
use Rattle.std.specs.Prelude.{ℕ, Bool, true, false, ◌&&◌, nat_le, nat_eq, Option}
use Rattle.std.specs.Option.{option_map_or}
use Rattle.fhir_elements.specs.declared.max.Max.{Max}
use Rattle.fhir_elements.specs.declared.max.Max.TheVariants.{Unbounded, UpTo}
use Rattle.fhir_elements.specs.Max.{is_within}
use Rattle.fhir_elements.specs.Element.{Element}

-- a bound that is absent asks for nothing
abbrev pub least_of : Element → ℕ
least_of e = option_map_or (λ n. n) e.min 0

abbrev pub are_enough : Element → ℕ → Bool
are_enough e n = nat_le (least_of e) n

abbrev pub are_within : Element → ℕ → Bool
are_within e n = option_map_or (is_within n) e.max true

-- so many items lie within the element's bounds
abbrev pub cardinality_holds : Element → ℕ → Bool
cardinality_holds e n = are_enough e n && are_within e n

-- an upper bound within another, where none is the widest
abbrev pub max_narrower : Max → Max → Bool
max_narrower Unbounded Unbounded = true
max_narrower Unbounded (UpTo m) = false
max_narrower (UpTo n) most = is_within n most

abbrev pub most_narrower : Option Max → Option Max → Bool
most_narrower p q = option_map_or (λ most. option_map_or (λ own. max_narrower own most) p false) q true

-- the element's bounds lie within the base element's
abbrev pub cardinality_narrower : Element → Element → Bool
cardinality_narrower e base = nat_le (least_of base) (least_of e) && most_narrower e.max base.max

abbrev pub allows_none : Max → Bool
allows_none Unbounded = false
allows_none (UpTo n) = nat_eq n 0

-- no item may be there
abbrev pub is_forbidden : Element → Bool
is_forbidden e = option_map_or allows_none e.max false
