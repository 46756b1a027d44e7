-- The values that were found in a text so far.
use Rattle.std.specs.Prelude.{List, ℕ, All}
use Rattle.std.specs.Option.{IfSome}
use Rattle.fhir_positions.specs.Positions.{StandsIn}
use Rattle.fhir_positions.specs.declared.values.Values.{Values}

-- each of them, and the string that may be one, begins at a position in the text
abbrev pub StandIn : List ℕ → Values → Type 0
StandIn bytes v = All (StandsIn bytes) v.found.items × IfSome v.string (StandsIn bytes)
