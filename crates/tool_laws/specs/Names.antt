-- A reference, and segments of ids, that are written short.
use Rattle.std.specs.Prelude.{None, Some, codes}
use Rattle.fhir_json.specs.Tree.{Text}
use Rattle.fhir_names.specs.Segments.{SegmentParts}

-- the type and the id of a patient
abbrev pub patient_one : Text × Text
patient_one = (codes "Patient", codes "1")

abbrev pub named : Text → SegmentParts
named name = (name, None)

abbrev pub sliced : Text → Text → SegmentParts
sliced name slice = (name, Some slice)
