-- The parts of a time's and a moment's text, by their places (FHIR R4, Data Types, dateTime, instant, time).
use Rattle.std.specs.Prelude.{ℕ, ◌+◌, [], ◌∷◌, take, drop, slice_index, ◌==◌, if◌then◌else◌}
use Rattle.std.specs.List.{prefix_len}
use Rattle.std.specs.Char.{is_ascii_digit}
use Rattle.fhir_json.specs.Tree.{Text}
use Rattle.fhir_json.specs.Bytes.{dot}

-- hh:mm:ss, a fraction or none, and what stands behind them
pub record TimeParts : Type 0 where
  pub clock : Text
  pub fraction : Text
  pub zone : Text

-- YYYY-MM-DD, the byte behind it, and a time
pub record MomentParts : Type 0 where
  pub day : Text
  pub mark : ℕ
  pub time : TimeParts

-- how many bytes a point and the digits behind it take at the start of a text
abbrev pub fraction_len : Text → ℕ
fraction_len [] = 0
fraction_len (b ∷ bs) = if b == dot then 1 + prefix_len is_ascii_digit bs else 0

abbrev pub cut_time : Text → TimeParts
cut_time s = record {
  clock = take 8 s;
  fraction = take (fraction_len (drop 8 s)) (drop 8 s);
  zone = drop (fraction_len (drop 8 s)) (drop 8 s);
}

abbrev pub cut_moment : Text → MomentParts
cut_moment s = record { day = take 10 s; mark = slice_index s 10; time = cut_time (drop 11 s) }
