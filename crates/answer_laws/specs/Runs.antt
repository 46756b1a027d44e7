-- A run over many resources, by the verdicts on its lines in their order (docs/USAGE.md, Many resources).
use Rattle.std.specs.Prelude.{ℕ, ◌+◌, List, Bool, true, false, fold, if◌then◌else◌}
use Rattle.std.specs.List.{list_any}
use Rattle.fhir_telling.specs.declared.verdict.LineVerdict.{LineVerdict}
use Rattle.fhir_telling.specs.declared.verdict.LineVerdict.TheVariants.{Conforms, Violates, Open, Fault, NoMemory, Empty}
use Rattle.fhir_bulk.specs.declared.tally.Tally.{Tally}
use Rattle.fhir_bulk.specs.Counting.{no_tally, tallied}

-- one more line is told
abbrev pub counted : Tally → LineVerdict → Tally
counted t v = tallied v t

abbrev pub tally_of : List LineVerdict → Tally
tally_of vs = fold counted no_tally vs

abbrev pub is_same : LineVerdict → LineVerdict → Bool
is_same Conforms Conforms = true
is_same Violates Violates = true
is_same Open Open = true
is_same Fault Fault = true
is_same NoMemory NoMemory = true
is_same Empty Empty = true
is_same one other = false

abbrev pub has : LineVerdict → List LineVerdict → Bool
has v vs = list_any (is_same v) vs

-- 1 where a resource violates a profile; else 5 where memory was refused for one; else 3 where something is a fault; else 2 where something
-- is open; else 0
abbrev pub status_said : List LineVerdict → ℕ
status_said vs =
    if has Violates vs then 1 else (if has NoMemory vs then 5 else (if has Fault vs then 3 else (if has Open vs then 2 else 0)))

-- how often a verdict was told
abbrev pub count_in : LineVerdict → Tally → ℕ
count_in Conforms t = t.conforms
count_in Violates t = t.violates
count_in Open t = t.opens
count_in Fault t = t.faults
count_in NoMemory t = t.no_memory
count_in Empty t = t.empties

abbrev pub total : Tally → ℕ
total t = t.conforms + t.violates + t.opens + t.faults + t.no_memory + t.empties
