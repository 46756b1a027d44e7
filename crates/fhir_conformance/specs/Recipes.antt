-- A package of recipes, with profiles that have constraints and slices; and recipes, to see which conform.
use Rattle.std.specs.Prelude.{List, [], ◌∷◌, codes}
use Rattle.fhir_json.specs.Tree.{Text, Tree, number, string, array, object, Items, no_items, item, Members, no_members, member}
use Rattle.fhir_package.specs.Definitions.{Definitions}
use Rattle.fhir_schema.specs.Schemas.{SchemaValue, schema_of}
use Rattle.fhir_instance.specs.TypingExample.{element, definition, of_type, with_snapshot}

-- ---- the definitions

abbrev pub code_type : Tree
code_type = definition (codes "primitive-type") (codes "code") (with_snapshot
    (item (element (codes "code") (codes "0") (codes "*") no_members) no_items))

abbrev pub recipe_type : Tree
recipe_type = definition (codes "resource") (codes "Recipe") (with_snapshot
    (item (element (codes "Recipe") (codes "0") (codes "*") no_members)
    (item (element (codes "Recipe.title") (codes "0") (codes "1") (of_type (codes "code")))
    (item (element (codes "Recipe.step") (codes "0") (codes "*") (of_type (codes "code")))
    no_items))))

abbrev pub profile : Items → Tree
profile elements =
    definition (codes "resource") (codes "Recipe")
    (member (codes "derivation") (string (codes "constraint"))
    (member (codes "baseDefinition") (string (codes "urn:Recipe")) (with_snapshot elements)))

-- ---- constraints

abbrev pub rule : Text → Text → Text → Tree
rule key severity expression =
    object (member (codes "key") (string key) (member (codes "severity") (string severity) (member (codes "expression") (string expression) no_members)))

abbrev pub rules : Items → Members → Members
rules cs more = member (codes "constraint") (array cs) more

abbrev pub with_title : Tree
with_title = rule (codes "r-1") (codes "error") (codes "title.exists()")

-- of the recipe, and of its title
abbrev pub ruled : Members → Members → Tree
ruled whole title =
    profile
    (item (element (codes "Recipe") (codes "0") (codes "*") whole)
    (item (element (codes "Recipe.title") (codes "0") (codes "1") title)
    (item (element (codes "Recipe.step") (codes "0") (codes "*") (of_type (codes "code")))
    no_items)))

abbrev pub whole_ruled : Items → Tree
whole_ruled cs = ruled (rules cs no_members) (of_type (codes "code"))

-- ---- slices

abbrev pub slicing : Text → Members → Members
slicing rules more =
    member (codes "slicing") (object
    (member (codes "discriminator") (array (item (object
    (member (codes "type") (string (codes "value")) (member (codes "path") (string (codes "$this")) no_members))) no_items))
    (member (codes "rules") (string rules) no_members))) more

-- of steps that are this one
abbrev pub step_slice : Text → Text → Text → Text → Members → Tree
step_slice id code min max more = element id min max (member (codes "fixedCode") (string code) more)

-- sliced by their values: to boil once, and perhaps to salt, in a word of three letters
abbrev pub sliced : Text → Tree
sliced rules =
    profile
    (item (element (codes "Recipe") (codes "0") (codes "*") no_members)
    (item (element (codes "Recipe.title") (codes "0") (codes "1") (of_type (codes "code")))
    (item (element (codes "Recipe.step") (codes "0") (codes "*") (slicing rules (of_type (codes "code"))))
    (item (step_slice (codes "Recipe.step:boil") (codes "boil") (codes "1") (codes "1") (of_type (codes "code")))
    (item (step_slice (codes "Recipe.step:fry") (codes "fry") (codes "0") (codes "*") (of_type (codes "code")))
    (item (step_slice (codes "Recipe.step:salt") (codes "salt") (codes "0") (codes "*") (member (codes "maxLength") (number (codes "3")) (of_type (codes "code"))))
    no_items))))))

-- two slices of the same step
abbrev pub doubly_sliced : Tree
doubly_sliced =
    profile
    (item (element (codes "Recipe") (codes "0") (codes "*") no_members)
    (item (element (codes "Recipe.step") (codes "0") (codes "*") (slicing (codes "open") (of_type (codes "code"))))
    (item (step_slice (codes "Recipe.step:one") (codes "boil") (codes "0") (codes "*") (of_type (codes "code")))
    (item (step_slice (codes "Recipe.step:other") (codes "boil") (codes "0") (codes "*") (of_type (codes "code")))
    no_items))))

abbrev pub definitions : Definitions
definitions = record {
  structure_definitions =
      (codes "urn:code", code_type)
      ∷ (codes "urn:Recipe", recipe_type)
      ∷ (codes "urn:titled", whole_ruled (item with_title (item (rule (codes "r-2") (codes "warning") (codes "step.exists()")) no_items)))
      ∷ (codes "urn:both", whole_ruled (item with_title (item (rule (codes "r-2") (codes "error") (codes "step.exists()")) no_items)))
      ∷ (codes "urn:unread", whole_ruled (item (rule (codes "r-3") (codes "error") (codes "title + step")) no_items))
      ∷ (codes "urn:context", ruled no_members (rules (item (rule (codes "r-4") (codes "error") (codes "%context = $this and %resource.title = $this")) no_items) (of_type (codes "code"))))
      ∷ (codes "urn:closed", sliced (codes "closed"))
      ∷ (codes "urn:open", sliced (codes "open"))
      ∷ (codes "urn:doubly", doubly_sliced)
      ∷ [];
  value_sets = [];
  code_systems = [];
}

abbrev pub recipes : SchemaValue
recipes = schema_of definitions

-- ---- recipes

abbrev pub recipe : Members → Tree
recipe more = object (member (codes "resourceType") (string (codes "Recipe")) more)

-- with a title alone
abbrev pub titled : Tree
titled = recipe (member (codes "title") (string (codes "t")) no_members)

abbrev pub untitled : Tree
untitled = recipe no_members

-- with these steps
abbrev pub words : List Text → Items
words [] = no_items
words (t ∷ ts) = item (string t) (words ts)

abbrev pub of_steps : List Text → Tree
of_steps ts = recipe (member (codes "step") (array (words ts)) no_members)
