-- Bounds of a value (FHIR R4, ElementDefinition, minValue[x] and maxValue[x]). Numbers are compared by value, and moments and
-- times of day by their fields; a bound of another type is an unread rule.
use Rattle.std.specs.Prelude.{Bool, true, false, ◌&&◌, ◌||◌, Option, None, Some, if◌then◌else◌}
use Rattle.std.specs.Option.{option_map, option_map_or, option_and_then}
use Rattle.std.specs.Ordering.{is_some_and, is_le, is_ge}
use Rattle.std.specs.declared.cmp.Ordering.{Ordering}
use Rattle.std.specs.Str.{bytes_eq}
use Rattle.fhir_json.specs.Tree.{Text, Tree, Property}
use Rattle.fhir_json.specs.Fields.{as_text, as_number, is_object}
use Rattle.fhir_decimal.specs.Reading.{parts}
use Rattle.fhir_decimal.specs.Value.{Value, value_of, value_order}
use Rattle.fhir_prims.specs.declared.prim.PrimType.{PrimType}
use Rattle.fhir_prims.specs.declared.prim.PrimType.TheVariants.{Integer, UnsignedInt, PositiveInt, Decimal, Date, DateTime, Instant}
use Rattle.fhir_prims.specs.declared.prim.PrimType.TheVariants.{Time as TimeOfDay}
use Rattle.fhir_prims.specs.Values.{prim_of}
use Rattle.fhir_prims.specs.Order.{Fields, moment_order}
use Rattle.fhir_prims.specs.Reading.{fields_of}
use Rattle.fhir_definition.specs.Bounds.{bound_type}
use Rattle.fhir_facets.specs.declared.scale.Scale.{Scale}
use Rattle.fhir_facets.specs.declared.scale.Scale.TheVariants.{Number, Moment, Time}
use Rattle.fhir_facets.specs.Unread.{Meaning, range}
use Rattle.fhir_facets.specs.Identity.{identical}
use Rattle.fhir_facets.specs.Seen.{Seen}

-- ---- the scales of values that have an order

abbrev pub scale_of : PrimType → Option Scale
scale_of Integer = Some Number
scale_of UnsignedInt = Some Number
scale_of PositiveInt = Some Number
scale_of Decimal = Some Number
scale_of Date = Some Moment
scale_of DateTime = Some Moment
scale_of Instant = Some Moment
scale_of TimeOfDay = Some Time
scale_of _ = None

abbrev pub same_scale : Scale → Scale → Bool
same_scale Number Number = true
same_scale Moment Moment = true
same_scale Time Time = true
same_scale _ _ = false

-- that of the items of a type
abbrev pub scale_of_code : Text → Option Scale
scale_of_code code = option_and_then scale_of (prim_of code)

-- that of a bound, by its property
abbrev pub scale_of_bound : Text → Option Scale
scale_of_bound property = option_and_then scale_of (bound_type property)

-- ---- their order

abbrev pub number_in : Tree → Option Value
number_in t = option_map value_of (option_and_then parts (as_number t))

abbrev pub fields_in : Tree → Option Fields
fields_in t = option_and_then fields_of (as_text t)

abbrev pub number_order : Tree → Tree → Option Ordering
number_order t u = option_and_then (λ a. option_map (value_order a) (number_in u)) (number_in t)

abbrev pub field_order_of : Tree → Tree → Option Ordering
field_order_of t u = option_and_then (λ a. option_and_then (moment_order a) (fields_in u)) (fields_in t)

-- two values on one scale may have no order
abbrev pub order_of : Scale → Tree → Tree → Option Ordering
order_of Number t u = number_order t u
order_of Moment t u = field_order_of t u
order_of Time t u = field_order_of t u

-- ---- one bound, of the lower side or of the upper

abbrev pub is_beyond : (Ordering → Bool) → Scale → Tree → Tree → Bool
is_beyond side scale value bound = is_some_and side (order_of scale value bound)

-- A value on its scale isn't outside. An item without a value, as an object is, or on another scale is passed over.
abbrev pub scale_holds : (Ordering → Bool) → Tree → Seen → Scale → Bool
scale_holds side bound x scale =
    if option_map_or (same_scale scale) (scale_of_code x.type) false
    then option_map_or (λ value. is_object value || is_beyond side scale value bound) x.json true else true

abbrev pub bound_holds : (Ordering → Bool) → Meaning → Seen → Property → Bool
bound_holds side m x p = option_map_or (scale_holds side p.1 x) (scale_of_bound p.0) (m (range p.0 p.1))

-- unread bounds: their texts are one
abbrev pub is_same_bound : Property → Property → Bool
is_same_bound p q = bytes_eq p.0 q.0 && identical p.1 q.1

-- as narrow as a bound on that scale
abbrev pub is_narrow_bound : (Ordering → Bool) → Property → Tree → Scale → Bool
is_narrow_bound side p base scale =
    option_map_or (same_scale scale) (scale_of_bound p.0) false && is_beyond side scale p.1 base

abbrev pub bound_narrower : (Ordering → Bool) → Property → Property → Bool
bound_narrower side p q = option_map_or (is_narrow_bound side p q.1) (scale_of_bound q.0) (is_same_bound p q)

-- ---- both bounds of an element

-- the least and the greatest value, each if there is one
pub record Range : Type 0 where
  pub least : Option Property
  pub most : Option Property

abbrev pub range_holds : Meaning → Range → Seen → Bool
range_holds m r x =
    option_map_or (bound_holds is_ge m x) r.least true && option_map_or (bound_holds is_le m x) r.most true

-- a bound of the base has one that is as narrow
abbrev pub side_narrower : (Ordering → Bool) → Option Property → Option Property → Bool
side_narrower side own base = option_map_or (λ q. option_map_or (λ p. bound_narrower side p q) own false) base true

abbrev pub range_narrower : Range → Range → Bool
range_narrower r base = side_narrower is_ge r.least base.least && side_narrower is_le r.most base.most
