-- Values that an element asks for (FHIR R4, ElementDefinition, fixed[x], pattern[x] and maxLength).
use Rattle.std.specs.Prelude.{ℤ, pos, length, Bool, true, false, not, ◌&&◌, ◌||◌, int_le}
use Rattle.std.specs.Option.{option_map_or, option_and_then}
use Rattle.std.specs.Str.{chars}
use Rattle.fhir_json.specs.Tree.{Text, Tree}
use Rattle.fhir_json.specs.Fields.{is_object, as_text}
use Rattle.fhir_matching.specs.Equality.{equal}
use Rattle.fhir_matching.specs.Fitting.{fits}
use Rattle.fhir_facets.specs.Seen.{Seen}

-- ---- fixed[x]: the value is equal, and a primitive has neither an id nor extensions

abbrev pub is_alone : Seen → Tree → Bool
is_alone x json = is_object json || not x.has_kids

abbrev pub fixed_holds : Tree → Seen → Bool
fixed_holds value x = option_map_or (λ json. equal value json && is_alone x json) x.json false

-- one is fixed to what the other is
abbrev pub fixed_narrower : Tree → Tree → Bool
fixed_narrower value base = equal base value

-- ---- pattern[x]: the value fits it

abbrev pub pattern_holds : Tree → Seen → Bool
pattern_holds pattern x = option_map_or (λ json. fits json pattern) x.json false

-- one pattern fits the other
abbrev pub pattern_narrower : Tree → Tree → Bool
pattern_narrower pattern base = fits pattern base

-- the fixed value fits the pattern
abbrev pub fixed_fits : Tree → Tree → Bool
fixed_fits value pattern = fits value pattern

-- ---- maxLength: a text has so many characters at most

abbrev pub is_short : ℤ → Text → Bool
is_short most text = int_le (pos (length (chars text))) most

abbrev pub length_holds : ℤ → Seen → Bool
length_holds most x = option_map_or (is_short most) (option_and_then as_text x.json) true

abbrev pub length_narrower : ℤ → ℤ → Bool
length_narrower most base = int_le most base
