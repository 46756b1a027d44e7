-- Profiles of recipes whose steps are sliced, in an order or in none, and open, or open at the end; and which steps conform.
use Rattle.std.specs.Prelude.{List, [], ◌∷◌, Bool, false, Option, codes}
use Rattle.std.specs.Option.{option_map, option_map_or, option_and_then}
use Rattle.fhir_json.specs.Tree.{Text, Tree, boolean, string, array, object, no_items, item, Members, no_members, member}
use Rattle.fhir_schema.specs.Schemas.{SchemaValue, schema_of, root, node}
use Rattle.fhir_instance.specs.Typing.{resource}
use Rattle.fhir_instance.specs.TypingExample.{element, of_type}
use Rattle.fhir_facets.specs.Order.{order_holds}
use Rattle.fhir_conformance.specs.Conformance.{Interpretation, outermost, conforms}
use Rattle.fhir_conformance.specs.Recipes.{code_type, recipe_type, profile, step_slice, of_steps}

-- ---- the definitions

-- sliced by the steps themselves
abbrev pub slicing : (rules : Text) → (ordered : Bool) → Members
slicing rules ordered =
    member (codes "slicing") (object
    (member (codes "discriminator") (array (item (object
    (member (codes "type") (string (codes "value")) (member (codes "path") (string (codes "$this")) no_members))) no_items))
    (member (codes "ordered") (boolean ordered)
    (member (codes "rules") (string rules) no_members)))) (of_type (codes "code"))

-- any number of steps to boil, and then of steps to fry
abbrev pub sliced_steps : (rules : Text) → (ordered : Bool) → Tree
sliced_steps rules ordered =
    profile
    (item (element (codes "Recipe") (codes "0") (codes "*") no_members)
    (item (element (codes "Recipe.step") (codes "0") (codes "*") (slicing rules ordered))
    (item (step_slice (codes "Recipe.step:boil") (codes "boil") (codes "0") (codes "*") (of_type (codes "code")))
    (item (step_slice (codes "Recipe.step:fry") (codes "fry") (codes "0") (codes "*") (of_type (codes "code")))
    no_items))))

abbrev pub recipes : (rules : Text) → (ordered : Bool) → SchemaValue
recipes rules ordered = schema_of (record {
  structure_definitions =
      (codes "urn:code", code_type)
      ∷ (codes "urn:Recipe", recipe_type)
      ∷ (codes "urn:sliced", sliced_steps rules ordered)
      ∷ [];
  value_sets = [];
  code_systems = [];
})

-- ---- judging

-- whether a resource conforms to a profile, where the profile can be used, and the resource is typed
abbrev pub judged : SchemaValue → Interpretation → Text → Tree → Option Bool
judged s meaning profile t =
    option_and_then (λ n. option_map (λ x. conforms s meaning (outermost x) x n) (resource s t)) (root s profile)

-- a recipe of these steps, where their slicing has those rules
abbrev pub judged_steps : Interpretation → (rules : Text) → (ordered : Bool) → List Text → Option Bool
judged_steps meaning rules ordered steps = judged (recipes rules ordered) meaning (codes "urn:sliced") (of_steps steps)

-- whether the steps may stand so, told by the names of the slices that they are in
abbrev pub may_stand : (rules : Text) → (ordered : Bool) → List Text → Bool
may_stand rules ordered names =
    option_map_or (λ n. order_holds (recipes rules ordered) n names) (node (recipes rules ordered) (codes "urn:sliced") (codes "Recipe.step")) false
