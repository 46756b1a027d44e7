-- Bindings to value sets (FHIR R4, ElementDefinition, binding; Terminologies, required): of what an item says, one concept at
-- least is in the set.
use Rattle.std.specs.Prelude.{Bool, true, false, ◌&&◌, ◌||◌, Option, None, Some, if◌then◌else◌, IsTrue, codes}
use Rattle.std.specs.Option.{option_map, option_map_or, option_and_then}
use Rattle.std.specs.List.{list_any}
use Rattle.std.specs.Str.{bytes_eq}
use Rattle.std.specs.FinSet as set
use Rattle.fhir_json.specs.Tree.{Text, Tree}
use Rattle.fhir_json.specs.Fields.{as_text, text_in, items_in}
use Rattle.fhir_prims.specs.declared.prim.PrimType.{PrimType}
use Rattle.fhir_prims.specs.declared.prim.PrimType.TheVariants.{Boolean, Integer, UnsignedInt, PositiveInt, Decimal}
use Rattle.fhir_prims.specs.Values.{prim_of}
use Rattle.fhir_codes.specs.Concepts.{Concepts, concept, has_code}
use Rattle.fhir_nodes.specs.Types.{is_system}
use Rattle.fhir_schema.specs.Schemas.{SchemaValue, concepts_at}
use Rattle.fhir_facets.specs.declared.lookup.Lookup.{Lookup}
use Rattle.fhir_facets.specs.declared.lookup.Lookup.TheVariants.{ByCode, ByCoding, ByOneCoding}
use Rattle.fhir_facets.specs.Unread.{Meaning, binding}
use Rattle.fhir_facets.specs.Seen.{Seen}

-- ---- how an item is looked up in a set

abbrev pub is_text_prim : PrimType → Bool
is_text_prim Boolean = false
is_text_prim Integer = false
is_text_prim UnsignedInt = false
is_text_prim PositiveInt = false
is_text_prim Decimal = false
is_text_prim _ = true

abbrev pub is_text_type : Text → Bool
is_text_type code = is_system code || option_map_or is_text_prim (prim_of code) false

abbrev pub is_text : Tree → Bool
is_text t = option_map_or (λ s. true) (as_text t) false

-- a primitive whose value, if it has one, is a text; a Coding; a CodeableConcept; and no item of another type
abbrev pub lookup_of : Seen → Option Lookup
lookup_of x =
    if bytes_eq x.type (codes "Coding") then Some ByCoding
    else (if bytes_eq x.type (codes "CodeableConcept") then Some ByOneCoding
    else (if is_text_type x.type && option_map_or is_text x.json true then Some ByCode else None))

-- a Coding's concept is in the set; a Coding without a system or a code has none
abbrev pub has_coding : Concepts → Tree → Bool
has_coding s t =
    option_map_or (λ system. option_map_or (λ code. set.contains s (concept system code)) (text_in (codes "code") t) false)
    (text_in (codes "system") t) false

abbrev pub has_one_coding : Concepts → Tree → Bool
has_one_coding s t = list_any (has_coding s) (items_in (codes "coding") t)

-- a primitive's text is the code of a concept in the set, whatever its system; one without a value is passed over
abbrev pub is_in : Lookup → Concepts → Seen → Bool
is_in ByCode s x = option_map_or (λ code. has_code code s) (option_and_then as_text x.json) true
is_in ByCoding s x = option_map_or (has_coding s) x.json false
is_in ByOneCoding s x = option_map_or (has_one_coding s) x.json false

-- ---- a required binding

pub record Binding : Type 0 where
  -- of its value set
  pub canonical : Text
  -- those of its value set, if they can be read
  pub concepts : Option Concepts

-- that of a schema to the value set that a canonical names
abbrev pub binding_to : SchemaValue → Text → Binding
binding_to s canonical = record { canonical = canonical; concepts = concepts_at s canonical }

-- whether the item is in the set, where the set is known and the item is looked up
abbrev pub decision : Binding → Seen → Option Bool
decision b x = option_and_then (λ s. option_map (λ how. is_in how s x) (lookup_of x)) b.concepts

abbrev pub binding_holds : Meaning → Binding → Seen → Bool
binding_holds m b x = option_map_or (λ holds. holds) (decision b x) (m (binding b.canonical))

-- a set within another, where both are known
abbrev pub lies_within : Option Concepts → Option Concepts → Bool
lies_within own base = option_map_or (λ b. option_map_or (λ a. set.is_subset a b) own false) base false

-- of one canonical, or to a smaller set
abbrev pub binding_narrower : Binding → Binding → Bool
binding_narrower b base = bytes_eq b.canonical base.canonical || lies_within b.concepts base.concepts

-- ---- fair meanings of unread rules

-- What unread bindings mean at an item is fair: where one holds, so does one to a larger set.
abbrev pub IsFair : SchemaValue → Meaning → Type 0
IsFair s m = (own base : Text) → IsTrue (lies_within (concepts_at s own) (concepts_at s base)) → IsTrue (m (binding own)) → IsTrue (m (binding base))
