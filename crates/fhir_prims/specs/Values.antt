-- The primitive types (FHIR R4, Data Types), and the JSON values that each allows.
use Rattle.std.specs.Prelude.{Bool, true, false, Option, Some, None, codes, if◌then◌else◌}
use Rattle.std.specs.Str.{bytes_eq}
use Rattle.fhir_json.specs.Tree.{Text, Tree, boolean, number, string}
use Rattle.fhir_prims.specs.declared.prim.PrimType.{PrimType}
use Rattle.fhir_prims.specs.declared.prim.PrimType.TheVariants.{Boolean, Integer, UnsignedInt, PositiveInt, Decimal, String, Markdown, Xhtml, Code}
use Rattle.fhir_prims.specs.declared.prim.PrimType.TheVariants.{Base64Binary, Id, Uri, Url, Canonical, Oid, Uuid, Date, DateTime, Instant, Time}
use Rattle.fhir_prims.specs.Numbers.{is_integer, is_unsigned_int, is_positive_int, is_decimal}
use Rattle.fhir_names.specs.ResourceIds.{is_id}
use Rattle.fhir_prims.specs.Texts.{is_string, is_uri, is_xhtml}
use Rattle.fhir_prims.specs.Blanks.{is_code, is_base64}
use Rattle.fhir_prims.specs.Names.{is_oid, is_uuid}
use Rattle.fhir_prims.specs.Moments.{is_date, is_date_time, is_instant, is_time}

-- the type of a code
abbrev pub prim_of : Text → Option PrimType
prim_of s =
    if bytes_eq s (codes "boolean") then Some Boolean
    else (if bytes_eq s (codes "integer") then Some Integer
    else (if bytes_eq s (codes "unsignedInt") then Some UnsignedInt
    else (if bytes_eq s (codes "positiveInt") then Some PositiveInt
    else (if bytes_eq s (codes "decimal") then Some Decimal
    else (if bytes_eq s (codes "string") then Some String
    else (if bytes_eq s (codes "markdown") then Some Markdown
    else (if bytes_eq s (codes "xhtml") then Some Xhtml
    else (if bytes_eq s (codes "code") then Some Code
    else (if bytes_eq s (codes "base64Binary") then Some Base64Binary
    else (if bytes_eq s (codes "id") then Some Id
    else (if bytes_eq s (codes "uri") then Some Uri
    else (if bytes_eq s (codes "url") then Some Url
    else (if bytes_eq s (codes "canonical") then Some Canonical
    else (if bytes_eq s (codes "oid") then Some Oid
    else (if bytes_eq s (codes "uuid") then Some Uuid
    else (if bytes_eq s (codes "date") then Some Date
    else (if bytes_eq s (codes "dateTime") then Some DateTime
    else (if bytes_eq s (codes "instant") then Some Instant
    else (if bytes_eq s (codes "time") then Some Time else None)))))))))))))))))))

-- whether a type has flags, and the numbers and the strings that are values of it
abbrev pub allows_flag : PrimType → Bool
allows_flag Boolean = true
allows_flag _ = false

abbrev pub allows_number : PrimType → Text → Bool
allows_number Integer s = is_integer s
allows_number UnsignedInt s = is_unsigned_int s
allows_number PositiveInt s = is_positive_int s
allows_number Decimal s = is_decimal s
allows_number _ s = false

abbrev pub allows_text : PrimType → Text → Bool
allows_text String s = is_string s
allows_text Markdown s = is_string s
allows_text Xhtml s = is_xhtml s
allows_text Code s = is_code s
allows_text Base64Binary s = is_base64 s
allows_text Id s = is_id s
allows_text Uri s = is_uri s
allows_text Url s = is_uri s
allows_text Canonical s = is_uri s
allows_text Oid s = is_oid s
allows_text Uuid s = is_uuid s
allows_text Date s = is_date s
allows_text DateTime s = is_date_time s
allows_text Instant s = is_instant s
allows_text Time s = is_time s
allows_text _ s = false

-- the JSON values of a type
abbrev pub lexical : PrimType → Tree → Bool
lexical p (boolean b) = allows_flag p
lexical p (number n) = allows_number p n
lexical p (string s) = allows_text p s
lexical p _ = false
