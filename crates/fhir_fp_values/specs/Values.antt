-- The values of a result: items, and the plain values of FHIRPath (N1, sections 2 and 3).
use Rattle.std.specs.Prelude.{Bool, ◌||◌, Option, Some, None, if◌then◌else◌, codes}
use Rattle.std.specs.Option.{option_map, option_and_then}
use Rattle.std.specs.Str.{bytes_eq}
use Rattle.fhir_json.specs.Tree.{Text, Tree}
use Rattle.fhir_json.specs.Tree.{null, boolean, string, array, object}
use Rattle.fhir_json.specs.Tree.{number as number_text}
use Rattle.fhir_decimal.specs.Value.{Value, value_of}
use Rattle.fhir_decimal.specs.Reading.{parts}
use Rattle.fhir_prims.specs.Order.{Fields}
use Rattle.fhir_prims.specs.Reading.{fields_of}
use Rattle.fhir_instance.specs.Items.{Item, type_of, json_of}

-- one value of a result
pub data Plain : Type 0 where
  node : Item → Plain
  truth : Bool → Plain
  number : Value → Plain
  text : Text → Plain

-- ---- what a value says, apart from where it stands

pub data SystemValue : Type 0 where
  boolean_of : Bool → SystemValue
  number_of : Value → SystemValue
  string_of : Text → SystemValue
  -- a date or a moment, and a time of day
  moment_of : Fields → SystemValue
  time_of : Fields → SystemValue

-- the types whose items are moments (FHIR R4, Data Types, date, dateTime, instant)
abbrev pub is_moment_type : Text → Bool
is_moment_type type =
    bytes_eq type (codes "date") || (bytes_eq type (codes "dateTime") || bytes_eq type (codes "instant"))

-- what the text of a type says
abbrev pub text_value : Text → Text → Option SystemValue
text_value type s =
    if is_moment_type type then option_map moment_of (fields_of s)
    else (if bytes_eq type (codes "time") then option_map time_of (fields_of s) else Some (string_of s))

abbrev pub json_value : Text → Tree → Option SystemValue
json_value type null = None
json_value type (boolean b) = Some (boolean_of b)
json_value type (number_text s) = option_map (λ p. number_of (value_of p)) (parts s)
json_value type (string s) = text_value type s
json_value type (array ts) = None
json_value type (object ms) = None

-- what an item says: the value of a primitive. The others say nothing by themselves
abbrev pub item_value : Item → Option SystemValue
item_value x = option_and_then (json_value (type_of x)) (json_of x)

abbrev pub system_value : Plain → Option SystemValue
system_value (node x) = item_value x
system_value (truth b) = Some (boolean_of b)
system_value (number v) = Some (number_of v)
system_value (text s) = Some (string_of s)
