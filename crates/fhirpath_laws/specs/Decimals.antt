-- Decimals by their texts.
use Rattle.std.specs.Prelude.{List, map, Bool, Option}
use Rattle.std.specs.Option.{option_map, option_and_then}
use Rattle.std.specs.declared.cmp.Ordering.{Ordering}
use Rattle.fhir_json.specs.Tree.{Text}
use Rattle.fhir_decimal.specs.Reading.{parts}
use Rattle.fhir_decimal.specs.Value.{Value, value_of, value_order}
use Rattle.fhir_decimal.specs.Whole.{is_whole_value}

-- the value that a text writes
abbrev pub written : Text → Option Value
written s = option_map value_of (parts s)

-- the order of what two texts write
abbrev pub order_between : Text → Text → Option Ordering
order_between s t = option_and_then (λ v. option_map (value_order v) (written t)) (written s)

-- which texts write whole numbers
abbrev pub whole_ones : List Text → List (Option Bool)
whole_ones ts = map (λ s. option_map is_whole_value (written s)) ts
