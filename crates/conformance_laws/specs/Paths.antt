-- Where a path of names leads (FHIR R4, ElementDefinition, slicing.discriminator.path; FHIRPath, paths).
use Rattle.std.specs.Prelude.{◌≡◌, ◌⊎◌, List, [], ◌∷◌, ◌++◌, codes}
use Rattle.std.specs.List.{Contains}
use Rattle.fhir_json.specs.Tree.{Text}
use Rattle.fhir_instance.specs.Items.{Item, Kids, no_kids, kid, Named, kids_of}

-- the children of an item, each under the name of its element
abbrev pub children_in : Kids → List Named
children_in no_kids = []
children_in (kid name x kids) = (name, x) ∷ children_in kids

-- a path calls an element by its name, and a choice without its `[x]`
abbrev pub Calls : Text → Text → Type 0
Calls name element = (name ≡ element) ⊎ (name ++ codes "[x]" ≡ element)

-- the names lead from one item to another, from child to child
abbrev pub Leads : List Text → Item → Item → Type 0
Leads [] x y = x ≡ y
Leads (name ∷ names) x y =
    (element : Text) × (z : Item) × (Contains (children_in (kids_of x)) (element, z)) × (Calls name element) × Leads names z y
