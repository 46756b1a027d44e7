-- How often each verdict was told.
use Rattle.std.specs.Prelude.{ℕ, ◌+◌, ◌==◌, if◌then◌else◌}
use Rattle.fhir_telling.specs.declared.verdict.LineVerdict.{LineVerdict}
use Rattle.fhir_telling.specs.declared.verdict.LineVerdict.TheVariants.{Conforms, Violates, Open, Fault, NoMemory, Empty}
use Rattle.fhir_bulk.specs.declared.tally.Tally.{Tally}

-- the greatest count
abbrev pub most : ℕ
most = 18446744073709551615

-- one more, up to the greatest
abbrev pub more : ℕ → ℕ
more n = if n == most then n else n + 1

abbrev pub no_tally : Tally
no_tally = record { conforms = 0; violates = 0; opens = 0; faults = 0; no_memory = 0; empties = 0 }

-- one more of a verdict, and as many as before of the others
abbrev pub tallied : LineVerdict → Tally → Tally
tallied Conforms t = record t { conforms = more t.conforms }
tallied Violates t = record t { violates = more t.violates }
tallied Open t = record t { opens = more t.opens }
tallied Fault t = record t { faults = more t.faults }
tallied NoMemory t = record t { no_memory = more t.no_memory }
tallied Empty t = record t { empties = more t.empties }
