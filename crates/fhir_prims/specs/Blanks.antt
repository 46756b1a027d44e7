-- Texts in which blanks may stand (FHIR R4, Data Types, code, base64Binary).
use Rattle.std.specs.Prelude.{◌%◌, length, Bool, not, ◌&&◌, ◌==◌}
use Rattle.std.specs.List.{list_all, list_any, slice_split}
use Rattle.fhir_json.specs.Tree.{Text}
use Rattle.fhir_json.specs.Bytes.{is_blank, is_empty}
use Rattle.fhir_prims.specs.Bytes.{is_base64_byte}

abbrev pub is_word : Text → Bool
is_word s = not (is_empty s)

-- `[^\s]+(\s[^\s]+)*`: between the blanks, and before and behind them, stand words
abbrev pub is_code : Text → Bool
is_code s = list_all is_word (slice_split is_blank s)

-- groups of four, or none
abbrev pub are_fours : Text → Bool
are_fours s = (length s % 4 == 0) && list_all is_base64_byte s

-- `(\s*([0-9a-zA-Z\+\/=]){4}\s*)+`: between the blanks, and before and behind them, stand groups of four, and one at
-- least in the text
abbrev pub is_base64 : Text → Bool
is_base64 s = list_any is_base64_byte s && list_all are_fours (slice_split is_blank s)
