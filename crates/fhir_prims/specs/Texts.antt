-- The texts of string, markdown, xhtml, uri, url and canonical (FHIR R4, Data Types).
use Rattle.std.specs.Prelude.{length, Bool, not, ◌&&◌, nat_le}
use Rattle.std.specs.List.{list_all}
use Rattle.std.specs.Str.{chars}
use Rattle.fhir_json.specs.Tree.{Text}
use Rattle.fhir_json.specs.Bytes.{is_blank, is_empty}
use Rattle.fhir_prims.specs.Bytes.{is_text_byte}

-- 1 to 1,048,576 characters, of which none is below U+0020 but tab, line feed and carriage return, as the standard's words
-- have it: a string or a markdown. Its expressions `[ \r\n\t\S]+` and `\s*(\S|\s)*` say less: they take all control
-- characters
abbrev pub is_string : Text → Bool
is_string s = not (is_empty s) && list_all is_text_byte s && nat_le (length (chars s)) 1048576

abbrev pub is_xhtml : Text → Bool
is_xhtml s = not (is_empty s)

-- `\S+`. The standard's expression is `\S*`, but no value is empty
abbrev pub is_uri : Text → Bool
is_uri s = not (is_empty s) && list_all (λ b. not (is_blank b)) s
