-- The numbers of faults of snapshots, as they are printed.
use Rattle.std.specs.Prelude.{Option, None, Some, codes, string_bytes}
use Rattle.fhir_json.specs.Tree.{Text}
use Rattle.fhir_snapshot.specs.declared.fault.SnapFault.{SnapFault}
use Rattle.fhir_snapshot.specs.declared.fault.SnapFault.TheVariants.{Missing, BaseCycle, NoSnapshot, WrongPart, WrongElement, NoElement, MinOverMax, RepeatedId, NoMemory}
use Rattle.fhir_snapshot.specs.declared.fault.SnapNumber.{SnapNumber}
use Rattle.fhir_snapshot.specs.declared.fault.SnapNumber.TheVariants.{S1, S2, S3, S4, S5}

abbrev pub number_text : SnapNumber → Text
number_text S1 = codes "S1"
number_text S2 = codes "S2"
number_text S3 = codes "S3"
number_text S4 = codes "S4"
number_text S5 = codes "S5"

abbrev pub number_of : SnapFault → SnapNumber
number_of Missing = S1
number_of BaseCycle = S2
number_of NoSnapshot = S3
number_of WrongPart = S3
number_of (WrongElement id) = S3
number_of (NoElement id) = S3
number_of (MinOverMax id) = S3
number_of (RepeatedId id) = S4
number_of NoMemory = S5

-- the id of the element that is to blame, if one is
abbrev pub element_of : SnapFault → Option Text
element_of (WrongElement id) = Some (string_bytes id)
element_of (NoElement id) = Some (string_bytes id)
element_of (MinOverMax id) = Some (string_bytes id)
element_of (RepeatedId id) = Some (string_bytes id)
element_of _ = None
