-- The texts of oid and uuid (FHIR R4, Data Types).
use Rattle.std.specs.Prelude.{length, slice_index, take, drop, Bool, not, ◌&&◌, ◌||◌, ◌==◌, nat_le, codes}
use Rattle.std.specs.List.{list_all, slice_split}
use Rattle.fhir_json.specs.Tree.{Text}
use Rattle.fhir_json.specs.Bytes.{dot, digit_zero}
use Rattle.fhir_decimal.specs.Text.{are_digits}
use Rattle.fhir_prims.specs.Shapes.{has_shape, digit_at}

-- `0|[1-9][0-9]*`
abbrev pub is_arc : Text → Bool
is_arc s = are_digits s && ((length s == 1) || not (slice_index s 0 == digit_zero))

-- such numbers with points between them, one at least
abbrev pub are_arcs : Text → Bool
are_arcs s = list_all is_arc (slice_split (λ b. b == dot) s)

-- `urn:oid:[0-2](\.(0|[1-9][0-9]*))+`
abbrev pub is_oid : Text → Bool
is_oid s = has_shape (codes "urn:oid:0.") (take 10 s) && nat_le (digit_at s 8) 2 && are_arcs (drop 10 s)

-- `urn:uuid:[0-9a-f]{8}-[0-9a-f]{4}-[0-9a-f]{4}-[0-9a-f]{4}-[0-9a-f]{12}`
abbrev pub is_uuid : Text → Bool
is_uuid s = has_shape (codes "urn:uuid:hhhhhhhh-hhhh-hhhh-hhhh-hhhhhhhhhhhh") s
