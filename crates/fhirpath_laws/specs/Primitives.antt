-- The primitive types, and which texts are values of them (FHIR R4, Data Types, primitive types).
use Rattle.std.specs.Prelude.{ℕ, List, [], ◌∷◌, map, length, Bool, true, false, not, ◌&&◌, ◌||◌, ◌==◌, nat_le, codes}
use Rattle.std.specs.List.{list_all}
use Rattle.std.specs.Str.{chars}
use Rattle.fhir_json.specs.Tree.{Text, string}
use Rattle.fhir_json.specs.Bytes.{is_empty}
use Rattle.fhir_prims.specs.declared.prim.PrimType.{PrimType}
use Rattle.fhir_prims.specs.declared.prim.PrimType.TheVariants.{Boolean, Integer, UnsignedInt, PositiveInt, Decimal, String, Markdown, Xhtml, Code}
use Rattle.fhir_prims.specs.declared.prim.PrimType.TheVariants.{Base64Binary, Id, Uri, Url, Canonical, Oid, Uuid, Date, DateTime, Instant, Time}
use Rattle.fhir_prims.specs.Moments.{days_in}
use Rattle.fhir_prims.specs.Values.{lexical}

-- ---- the types

abbrev pub type_codes : List Text
type_codes =
    codes "boolean" ∷ codes "integer" ∷ codes "unsignedInt" ∷ codes "positiveInt" ∷ codes "decimal" ∷ codes "string" ∷ codes "markdown"
    ∷ codes "xhtml" ∷ codes "code" ∷ codes "id" ∷ codes "uri" ∷ codes "url" ∷ codes "canonical" ∷ codes "oid" ∷ codes "uuid"
    ∷ codes "base64Binary" ∷ codes "date" ∷ codes "dateTime" ∷ codes "instant" ∷ codes "time" ∷ []

abbrev pub types : List PrimType
types =
    Boolean ∷ Integer ∷ UnsignedInt ∷ PositiveInt ∷ Decimal ∷ String ∷ Markdown
    ∷ Xhtml ∷ Code ∷ Id ∷ Uri ∷ Url ∷ Canonical ∷ Oid ∷ Uuid
    ∷ Base64Binary ∷ Date ∷ DateTime ∷ Instant ∷ Time ∷ []

abbrev pub is_flag_type : PrimType → Bool
is_flag_type Boolean = true
is_flag_type _ = false

abbrev pub is_number_type : PrimType → Bool
is_number_type Integer = true
is_number_type UnsignedInt = true
is_number_type PositiveInt = true
is_number_type Decimal = true
is_number_type _ = false

abbrev pub is_text_type : PrimType → Bool
is_text_type p = not (is_flag_type p || is_number_type p)

-- ---- their texts

-- which texts are values of the type
abbrev pub are_values : PrimType → List Text → List Bool
are_values p ts = map (λ s. lexical p (string s)) ts

-- no control character but tab, line feed and carriage return
abbrev pub may_stand : ℕ → Bool
may_stand b = nat_le 32 b || (b == 9) || (b == 10) || (b == 13)

-- 1 to 1024 * 1024 characters, of which each may stand
abbrev pub is_text : Text → Bool
is_text s = not (is_empty s) && list_all may_stand s && nat_le (length (chars s)) 1048576

-- ---- the calendar

abbrev pub months : List ℕ
months = 1 ∷ 2 ∷ 3 ∷ 4 ∷ 5 ∷ 6 ∷ 7 ∷ 8 ∷ 9 ∷ 10 ∷ 11 ∷ 12 ∷ []

-- how many days February has in each of the years
abbrev pub februaries : List ℕ → List ℕ
februaries years = map (λ year. days_in year 2) years
