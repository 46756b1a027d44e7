-- Ids of resources (FHIR R4, Data Types, id): `[A-Za-z0-9\-\.]{1,64}`.
use Rattle.std.specs.Prelude.{ℕ, length, Bool, ◌&&◌, ◌||◌, ◌==◌, nat_le}
use Rattle.std.specs.Char.{is_ascii_alphanumeric}
use Rattle.std.specs.List.{list_all}
use Rattle.fhir_json.specs.Tree.{Text}
use Rattle.fhir_json.specs.Bytes.{minus, dot}

-- `[A-Za-z0-9\-\.]`
abbrev pub is_id_byte : ℕ → Bool
is_id_byte b = is_ascii_alphanumeric b || (b == minus) || (b == dot)

-- one such byte or more, and 64 at the most
abbrev pub is_id : Text → Bool
is_id i = nat_le 1 (length i) && nat_le (length i) 64 && list_all is_id_byte i
