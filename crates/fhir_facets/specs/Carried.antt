-- Which unread rules the bounds, the targets, the profiles, the binding and the constraints of an element are.
use Rattle.std.specs.Prelude.{List, [], ◌∷◌, ◌++◌, ◌&&◌, if◌then◌else◌, is_some, is_none}
use Rattle.std.specs.Option.{option_map_or}
use Rattle.fhir_json.specs.Tree.{Text, Property}
use Rattle.fhir_elements.specs.Constraint.{Constraint, must_hold}
use Rattle.fhir_elements.specs.Element.{Element}
use Rattle.fhir_nodes.specs.Expressions.{expression_of}
use Rattle.fhir_schema.specs.Schemas.{SchemaValue, loaded, concepts_at}
use Rattle.fhir_facets.specs.Unread.{Unread, range, target, profile, binding, unread_constraint}
use Rattle.fhir_facets.specs.Seen.{Seen}
use Rattle.fhir_facets.specs.Bindings.{Binding, decision}
use Rattle.fhir_facets.specs.Ranges.{scale_of_bound}

abbrev pub bound_unread : Property → List Unread
bound_unread p = if is_none (scale_of_bound p.0) then range p.0 p.1 ∷ [] else []

abbrev pub range_unread : Element → List Unread
range_unread e = option_map_or bound_unread e.min_value [] ++ option_map_or bound_unread e.max_value []

abbrev pub target_unread : SchemaValue → Text → List Unread
target_unread s canonical = if is_none (loaded s canonical) then target canonical ∷ [] else []

abbrev pub profile_unread : SchemaValue → Text → List Unread
profile_unread s canonical = if is_none (loaded s canonical) then profile canonical ∷ [] else []

-- of a value set that can't be read, whatever the item
abbrev pub value_set_unread : SchemaValue → Text → List Unread
value_set_unread s canonical = if is_none (concepts_at s canonical) then binding canonical ∷ [] else []

abbrev pub binding_unread : Binding → Seen → List Unread
binding_unread b x = if is_some (decision b x) then [] else binding b.canonical ∷ []

-- a constraint that must hold, and whose expression can't be read
abbrev pub constraint_unread : Constraint → List Unread
constraint_unread c = if must_hold c && is_none (expression_of c) then unread_constraint c ∷ [] else []
