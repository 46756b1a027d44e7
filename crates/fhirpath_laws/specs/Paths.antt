-- What a path goes on to from each value, one behind the other (FHIRPath N1, section 3; FHIR R4, FHIRPath, polymorphic elements).
use Rattle.std.specs.Prelude.{List, [], ◌∷◌, map, filter, Bool, false}
use Rattle.std.specs.List.{flat_map}
use Rattle.std.specs.Str.{bytes_eq}
use Rattle.fhir_json.specs.Tree.{Text}
use Rattle.fhir_schema.specs.Schemas.{SchemaValue}
use Rattle.fhir_schema.specs.Covers.{derives}
use Rattle.fhir_instance.specs.Items.{Item, Kids, no_kids, kid, Named, type_of, kids_of}
use Rattle.fhir_fp_values.specs.Values.{Plain, node}
use Rattle.fhir_fp_eval.specs.Meaning.{path_name, descendants}

-- the children with their names, in their order
abbrev pub children_in : Kids → List Named
children_in no_kids = []
children_in (kid name x ks) = (name, x) ∷ children_in ks

-- what there is of an item; a value that is no item has nothing
abbrev pub of_item : (Item → List Plain) → Plain → List Plain
of_item f (node x) = f x
of_item f v = []

-- an item's children of a name, where a choice is named without its `[x]`
abbrev pub named_so : Text → Item → List Plain
named_so name x = map (λ k. node k.1) (filter (λ k. bytes_eq (path_name k.0) name) (children_in (kids_of x)))

-- all its children
abbrev pub children_of : Item → List Plain
children_of x = map (λ k. node k.1) (children_in (kids_of x))

-- each of its children, and what is below that
abbrev pub all_below : Item → List Plain
all_below x = flat_map (λ k. node k.1 ∷ map node (descendants k.1)) (children_in (kids_of x))

-- the value is an item of the type, or of one that derives from it
abbrev pub is_item_of : SchemaValue → Text → Plain → Bool
is_item_of s type (node x) = derives s (type_of x) type
is_item_of s type v = false
