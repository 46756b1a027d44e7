-- How many there may be at most (FHIR R4, ElementDefinition, max).
use Rattle.std.specs.Prelude.{Bool, true, Option, codes, ℕ, nat_le, nat_lt, Some, if◌then◌else◌}
use Rattle.std.specs.Str.{bytes_eq}
use Rattle.fhir_json.specs.Tree.{Text}
use Rattle.std.specs.Option.{option_map}
use Rattle.fhir_json.specs.Fields.{count_of}
use Rattle.fhir_elements.specs.declared.max.Max.{Max}
use Rattle.fhir_elements.specs.declared.max.Max.TheVariants.{Unbounded, UpTo}

-- how many there may be: any number, or a count without leading zeros
abbrev pub max_of : Text → Option Max
max_of s = if bytes_eq s (codes "*") then Some Unbounded else option_map UpTo (count_of s)

abbrev pub is_within : ℕ → Max → Bool
is_within n Unbounded = true
is_within n (UpTo m) = nat_le n m

-- more than one may be there
abbrev pub allows_several : Max → Bool
allows_several Unbounded = true
allows_several (UpTo m) = nat_lt 1 m
