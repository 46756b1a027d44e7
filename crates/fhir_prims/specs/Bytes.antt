-- Classes of bytes.
use Rattle.std.specs.Prelude.{ℕ, Bool, not, ◌&&◌, ◌||◌, ◌==◌, nat_le}
use Rattle.std.specs.Char.{is_ascii_alphanumeric, is_ascii_hexdigit, is_ascii_uppercase}
use Rattle.fhir_json.specs.Bytes.{tab, line_feed, carriage_return, space, plus, slash, equals_sign}

-- `[0-9a-f]`
abbrev pub is_lowercase_hexdigit : ℕ → Bool
is_lowercase_hexdigit b = is_ascii_hexdigit b && not (is_ascii_uppercase b)

-- `[0-9a-zA-Z\+\/=]`
abbrev pub is_base64_byte : ℕ → Bool
is_base64_byte b = is_ascii_alphanumeric b || (b == plus) || (b == slash) || (b == equals_sign)

-- not below U+0020, but for tab, line feed and carriage return
abbrev pub is_text_byte : ℕ → Bool
is_text_byte b = nat_le space b || (b == tab) || (b == line_feed) || (b == carriage_return)
