-- The definitions of a package that have no snapshot.
use Rattle.std.specs.Prelude.{List, map, String, string_bytes}
use Rattle.fhir_json.specs.Tree.{Text}
use Rattle.fhir_snapshot.specs.declared.fault.SnapFault.{SnapFault}
use Rattle.fhir_snapshot.specs.Faults.{number_of}
use Rattle.fhir_snapshot.specs.Completing.{Numbered}

-- their urls, each with the fault
abbrev pub Lacking : Type 0
Lacking = List (Text × SnapFault)

-- the same with the numbers of the faults
abbrev pub numbers : Lacking → Numbered
numbers lacking = map (λ f. (f.0, number_of f.1)) lacking

-- ---- what contracts see

abbrev pub lacking_seen : {Y : Type 0} → List (String Y × SnapFault) → Lacking
lacking_seen faults = map (λ f. (string_bytes f.0, f.1)) faults
