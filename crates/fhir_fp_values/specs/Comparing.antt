-- The order of two values (FHIRPath N1, section 6.2).
use Rattle.std.specs.Prelude.{Bool, true, false, ◌&&◌, Option, Some, None, Result, Ok, Err, if◌then◌else◌, codes}
use Rattle.std.specs.Option.{option_map, option_and_then}
use Rattle.std.specs.Str.{bytes_eq}
use Rattle.std.specs.Ordering.{nat_cmp}
use Rattle.std.specs.Cmp.Lexicographic.{slice_cmp}
use Rattle.std.specs.declared.cmp.Ordering.{Ordering}
use Rattle.fhir_json.specs.Tree.{Text}
use Rattle.fhir_decimal.specs.Value.{Value, value_order}
use Rattle.fhir_prims.specs.Order.{moment_order}
use Rattle.fhir_schema.specs.Schemas.{SchemaValue}
use Rattle.fhir_schema.specs.Covers.{derives}
use Rattle.fhir_instance.specs.Items.{Item, Kids, no_kids, kid, type_of, kids_of}
use Rattle.fhir_fp_values.specs.declared.fault.EvalFault.{EvalFault}
use Rattle.fhir_fp_values.specs.declared.fault.EvalFault.TheVariants.{Kind}
use Rattle.fhir_fp_values.specs.Values.{Plain, node, SystemValue, number_of, string_of, moment_of, time_of, item_value, system_value}
use Rattle.fhir_fp_values.specs.Equality.{equal, is_yes}

-- an order, none where two values of one kind have none, or a fault
abbrev pub Compared : Type 0
Compared = Result (Option Ordering) EvalFault

-- numbers by value, strings by their bytes, moments and times of day as far as they have an order
abbrev pub system_value_order : SystemValue → SystemValue → Compared
system_value_order (number_of a) (number_of b) = Ok (Some (value_order a b))
system_value_order (string_of a) (string_of b) = Ok (Some (slice_cmp nat_cmp a b))
system_value_order (moment_of a) (moment_of b) = Ok (moment_order a b)
system_value_order (moment_of a) (time_of b) = Ok None
system_value_order (time_of a) (moment_of b) = Ok None
system_value_order (time_of a) (time_of b) = Ok (moment_order a b)
system_value_order _ _ = Err Kind

-- ---- quantities (FHIR R4, Data Types, Quantity; FHIRPath N1, section 6.2)

abbrev pub first_named : Text → Kids → Option Item
first_named name no_kids = None
first_named name (kid n x ks) = if bytes_eq n name then Some x else first_named name ks

abbrev pub child : Text → Item → Option Item
child name x = first_named name (kids_of x)

abbrev pub number_in : SystemValue → Option Value
number_in (number_of v) = Some v
number_in _ = None

-- the number of its child `value`
abbrev pub amount : Item → Option Value
amount x = option_and_then (λ y. option_and_then number_in (item_value y)) (child (codes "value") x)

abbrev pub both_or_none : Option Item → Option Item → Bool
both_or_none (Some x) (Some y) = is_yes (equal x y)
both_or_none (Some x) None = false
both_or_none None (Some y) = false
both_or_none None None = true

-- the children of a name are equal, or there is none in either
abbrev pub same_child : Text → Item → Item → Bool
same_child name x y = both_or_none (child name x) (child name y)

abbrev pub same_unit : Item → Item → Bool
same_unit x y =
    same_child (codes "system") x y && (same_child (codes "code") x y && same_child (codes "unit") x y)

abbrev pub amount_order : Item → Item → Option Ordering
amount_order x y = option_and_then (λ a. option_map (value_order a) (amount y)) (amount x)

abbrev pub quantity_order : Item → Item → Option Ordering
quantity_order x y = if same_unit x y then amount_order x y else None

abbrev pub is_quantity : SchemaValue → Item → Bool
is_quantity s x = derives s (type_of x) (codes "Quantity")

abbrev pub item_order : SchemaValue → Item → Item → Compared
item_order s x y = if is_quantity s x && is_quantity s y then Ok (quantity_order x y) else Err Kind

-- ---- two values

-- where neither says anything, this other order
abbrev pub order_said : Option SystemValue → Option SystemValue → Compared → Compared
order_said (Some a) (Some b) otherwise = system_value_order a b
order_said (Some a) None otherwise = Err Kind
order_said None (Some b) otherwise = Err Kind
order_said None None otherwise = otherwise

abbrev pub node_order : SchemaValue → Plain → Plain → Compared
node_order s (node x) (node y) = item_order s x y
node_order s _ _ = Err Kind

-- values have an order by what they say, and quantities by their parts
unfoldable pub order_of : SchemaValue → Plain → Plain → Compared
order_of s x y = order_said (system_value x) (system_value y) (node_order s x y)
