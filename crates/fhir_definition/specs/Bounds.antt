-- Bounds of values, by the names of their properties (FHIR R4, ElementDefinition, minValue[x] and maxValue[x]).
use Rattle.std.specs.Prelude.{Bool, true, ◌&&◌, Option, None, Some, drop, if◌then◌else◌, codes}
use Rattle.std.specs.Option.{option_map_or}
use Rattle.std.specs.Str.{bytes_eq}
use Rattle.fhir_json.specs.Tree.{Text, Property}
use Rattle.fhir_prims.specs.declared.prim.PrimType.{PrimType}
use Rattle.fhir_prims.specs.declared.prim.PrimType.TheVariants.{Integer, UnsignedInt, PositiveInt, Decimal, Date, DateTime, Instant, Time}
use Rattle.fhir_prims.specs.Values.{lexical}
use Rattle.fhir_elements.specs.Element.{Element}

-- the type of a bound that is compared, by the end of its property
abbrev pub compared_type : Text → Option PrimType
compared_type end =
    if bytes_eq end (codes "Integer") then Some Integer
    else (if bytes_eq end (codes "UnsignedInt") then Some UnsignedInt
    else (if bytes_eq end (codes "PositiveInt") then Some PositiveInt
    else (if bytes_eq end (codes "Decimal") then Some Decimal
    else (if bytes_eq end (codes "Date") then Some Date
    else (if bytes_eq end (codes "DateTime") then Some DateTime
    else (if bytes_eq end (codes "Instant") then Some Instant
    else (if bytes_eq end (codes "Time") then Some Time else None)))))))

-- that of `minValueDate` is a date; both stems have eight letters
abbrev pub bound_type : Text → Option PrimType
bound_type property = compared_type (drop 8 property)

-- a bound that is compared is a value of its type
abbrev pub is_lexical_bound : Property → Bool
is_lexical_bound p = option_map_or (λ type. lexical type p.1) (bound_type p.0) true

abbrev pub has_lexical_bounds : Element → Bool
has_lexical_bounds e = option_map_or is_lexical_bound e.min_value true && option_map_or is_lexical_bound e.max_value true
