-- Definitions by hand: some with members that R4 doesn't have, and some without.
use Rattle.std.specs.Prelude.{List, [], ◌∷◌, map, Option, None, Some, codes}
use Rattle.fhir_json.specs.Tree.{Text, Tree, Property, null, string, array, object, no_items, item, members_of}
use Rattle.fhir_unrecognized.specs.declared.object.Object.{Object}
use Rattle.fhir_unrecognized.specs.declared.object.Object.TheVariants as objects
use Rattle.fhir_unrecognized.specs.Unrecognized.{UnrecognizedMember}

abbrev pub with : List Property → Tree
with fields = object (members_of fields)

abbrev pub one_with : List Property → Tree
one_with fields = array (item (with fields) no_items)

-- fields of which only the names matter
abbrev pub named : List Text → List Property
named names = map (λ name. (name, null)) names

abbrev pub just : Text → List Property
just name = (name, null) ∷ []

abbrev pub of_type : Text → List Property → Tree
of_type type fields = with ((codes "resourceType", string type) ∷ fields)

abbrev pub value_set_of : List Property → Tree
value_set_of fields = of_type (codes "ValueSet") ((codes "compose", with fields) ∷ [])

-- a StructureDefinition with an element `Patient.name` in its differential
abbrev pub structure_of : List Property → List Property → Tree
structure_of parts fields =
    let element = one_with ((codes "id", string (codes "Patient.name")) ∷ parts) in
    of_type (codes "StructureDefinition") ((codes "differential", with ((codes "element", element) ∷ [])) ∷ fields)

-- ---- misspelt

abbrev pub misspelt_structure : Tree
misspelt_structure = structure_of
    ((codes "mni", null) ∷ (codes "bindings", null) ∷ (codes "fixed", null)
    ∷ (codes "slicing", with ((codes "rule", string (codes "closed")) ∷ (codes "discriminator", one_with (just (codes "kind"))) ∷ []))
    ∷ (codes "type", one_with (just (codes "profiles")))
    ∷ (codes "binding", with (just (codes "strenght")))
    ∷ (codes "constraint", one_with (just (codes "expresion")))
    ∷ (codes "base", with (just (codes "__min")))
    ∷ [])
    ((codes "differentail", null) ∷ (codes "snapshot", with (just (codes "elements"))) ∷ [])

abbrev pub misspelt_value_set : Tree
misspelt_value_set = value_set_of
    ((codes "includes", null)
    ∷ (codes "include", one_with ((codes "filters", null) ∷ (codes "filter", one_with (just (codes "operator"))) ∷ []))
    ∷ (codes "exclude", one_with ((codes "concept", one_with (just (codes "cod"))) ∷ []))
    ∷ [])

abbrev pub misspelt_code_system : Tree
misspelt_code_system = of_type (codes "CodeSystem")
    ((codes "contents", null) ∷ (codes "concept", one_with ((codes "concept", one_with (just (codes "dispaly"))) ∷ [])) ∷ [])

abbrev pub told : Option Text → Text → Object → UnrecognizedMember
told id name o = record { id = id; name = name; object = o }

abbrev pub told_of_structure : List UnrecognizedMember
told_of_structure =
    let id = Some (codes "Patient.name") in
    told id (codes "mni") objects.Element ∷ told id (codes "bindings") objects.Element ∷ told id (codes "fixed") objects.Element
    ∷ told id (codes "rule") objects.Slicing ∷ told id (codes "kind") objects.Discriminator ∷ told id (codes "profiles") objects.ElementType
    ∷ told id (codes "strenght") objects.Binding ∷ told id (codes "expresion") objects.Constraint ∷ told id (codes "__min") objects.Base
    ∷ told None (codes "differentail") objects.StructureDefinition ∷ told None (codes "elements") objects.Snapshot ∷ []

abbrev pub told_of_value_set : List UnrecognizedMember
told_of_value_set =
    told None (codes "includes") objects.Compose ∷ told None (codes "filters") objects.Include ∷ told None (codes "operator") objects.Filter
    ∷ told None (codes "cod") objects.ListedConcept ∷ []

abbrev pub told_of_code_system : List UnrecognizedMember
told_of_code_system = told None (codes "contents") objects.CodeSystem ∷ told None (codes "dispaly") objects.Concept ∷ []

-- ---- right

abbrev pub right_parts : List Property
right_parts =
    (codes "slicing", with ((codes "rules", null) ∷ (codes "discriminator", one_with (named (codes "type" ∷ codes "path" ∷ []))) ∷ []))
    ∷ (codes "type", one_with (named (codes "code" ∷ codes "extension" ∷ [])))
    ∷ (codes "binding", with (named (codes "strength" ∷ codes "valueSet" ∷ [])))
    ∷ (codes "constraint", one_with (named (codes "key" ∷ codes "expression" ∷ [])))
    ∷ (codes "base", with (named (codes "path" ∷ codes "min" ∷ codes "max" ∷ [])))
    ∷ named (codes "modifierExtension" ∷ codes "min" ∷ codes "_max" ∷ codes "fixedCode" ∷ codes "_patternString" ∷ codes "fhir_comments" ∷ [])

-- what stands in other parts, or in an array of arrays, isn't looked into
abbrev pub right_definitions : List Tree
right_definitions =
    structure_of right_parts
    ((codes "_title", null) ∷ (codes "keyword", one_with (just (codes "mni"))) ∷ (codes "snapshot", array (item (one_with (just (codes "mni"))) no_items)) ∷ [])
    ∷ value_set_of
    ((codes "lockedDate", null)
    ∷ (codes "include", one_with ((codes "system", null) ∷ (codes "concept", one_with (just (codes "code"))) ∷ []))
    ∷ (codes "exclude", one_with ((codes "valueSet", null) ∷ (codes "filter", one_with (just (codes "op"))) ∷ []))
    ∷ [])
    ∷ of_type (codes "CodeSystem") ((codes "filter", one_with (just (codes "mni"))) ∷ (codes "concept", one_with (just (codes "display"))) ∷ [])
    ∷ of_type (codes "Patient") (just (codes "mni"))
    ∷ with (just (codes "mni"))
    ∷ []
