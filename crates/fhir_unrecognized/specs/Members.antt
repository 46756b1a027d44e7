-- The names of the members that FHIR R4 (4.0.1) has in each object of a definition.
use Rattle.std.specs.Prelude.{ℕ, List, [], ◌∷◌, Bool, false, ◌||◌, ◌==◌, if◌then◌else◌, nat_eq, codes}
use Rattle.std.specs.List.{list_any, starts_with}
use Rattle.fhir_json.specs.Tree.{Text}
use Rattle.fhir_json.specs.Fields.{is_choice}
use Rattle.fhir_json.specs.Sound.{is_among}
use Rattle.fhir_unrecognized.specs.declared.object.Object.{Object}
use Rattle.fhir_unrecognized.specs.declared.object.Object.TheVariants.{StructureDefinition, ValueSet, CodeSystem, Snapshot, Differential, Element, ElementType, Binding, Constraint, Slicing, Discriminator, Base, Compose, Include, ListedConcept, Filter, Concept}

-- ---- resources

-- of each (https://hl7.org/fhir/R4/resource.html, domainresource.html and metadataresource.html)
abbrev pub resource_names : List Text
resource_names =
    codes "resourceType" ∷ codes "id" ∷ codes "meta" ∷ codes "implicitRules" ∷ codes "language" ∷ codes "text" ∷ codes "contained" ∷ codes "extension"
    ∷ codes "modifierExtension" ∷ codes "url" ∷ codes "identifier" ∷ codes "version" ∷ codes "name" ∷ codes "title" ∷ codes "status"
    ∷ codes "experimental" ∷ codes "date" ∷ codes "publisher" ∷ codes "contact" ∷ codes "description" ∷ codes "useContext" ∷ codes "jurisdiction"
    ∷ codes "purpose" ∷ codes "copyright" ∷ []

-- https://hl7.org/fhir/R4/structuredefinition.html
abbrev pub structure_names : List Text
structure_names =
    codes "keyword" ∷ codes "fhirVersion" ∷ codes "mapping" ∷ codes "kind" ∷ codes "abstract" ∷ codes "context" ∷ codes "contextInvariant"
    ∷ codes "type" ∷ codes "baseDefinition" ∷ codes "derivation" ∷ codes "snapshot" ∷ codes "differential" ∷ []

-- https://hl7.org/fhir/R4/codesystem.html
abbrev pub code_system_names : List Text
code_system_names =
    codes "caseSensitive" ∷ codes "valueSet" ∷ codes "hierarchyMeaning" ∷ codes "compositional" ∷ codes "versionNeeded" ∷ codes "content"
    ∷ codes "supplements" ∷ codes "count" ∷ codes "filter" ∷ codes "property" ∷ codes "concept" ∷ []

-- ---- elements (https://hl7.org/fhir/R4/elementdefinition.html)

abbrev pub element_names : List Text
element_names =
    codes "path" ∷ codes "representation" ∷ codes "sliceName" ∷ codes "sliceIsConstraining" ∷ codes "label" ∷ codes "code" ∷ codes "slicing"
    ∷ codes "short" ∷ codes "definition" ∷ codes "comment" ∷ codes "requirements" ∷ codes "alias" ∷ codes "min" ∷ codes "max" ∷ codes "base"
    ∷ codes "contentReference" ∷ codes "type" ∷ codes "meaningWhenMissing" ∷ codes "orderMeaning" ∷ codes "example" ∷ codes "maxLength"
    ∷ codes "condition" ∷ codes "constraint" ∷ codes "mustSupport" ∷ codes "isModifier" ∷ codes "isModifierReason" ∷ codes "isSummary"
    ∷ codes "binding" ∷ codes "mapping" ∷ []

-- the stems of its choices, as `fixed` of `fixedCode` (https://hl7.org/fhir/R4/formats.html#choice)
abbrev pub element_stems : List Text
element_stems = codes "defaultValue" ∷ codes "fixed" ∷ codes "pattern" ∷ codes "minValue" ∷ codes "maxValue" ∷ []

-- ---- every object

-- of each part of an element (https://hl7.org/fhir/R4/element.html)
abbrev pub part_names : List Text
part_names = codes "id" ∷ codes "extension" ∷ []

-- those that R4 has in all objects of its kind: else it is a part of a resource (https://hl7.org/fhir/R4/backboneelement.html)
abbrev pub common_names : Object → List Text
common_names StructureDefinition = resource_names
common_names ValueSet = resource_names
common_names CodeSystem = resource_names
common_names ElementType = part_names
common_names Binding = part_names
common_names Constraint = part_names
common_names Slicing = part_names
common_names Discriminator = part_names
common_names Base = part_names
common_names _ = codes "id" ∷ codes "extension" ∷ codes "modifierExtension" ∷ []

-- those that it has in the object besides
abbrev pub own_names : Object → List Text
-- https://hl7.org/fhir/R4/structuredefinition.html
own_names StructureDefinition = structure_names
own_names Snapshot = codes "element" ∷ []
own_names Differential = codes "element" ∷ []
-- https://hl7.org/fhir/R4/elementdefinition.html
own_names Element = element_names
own_names ElementType = codes "code" ∷ codes "profile" ∷ codes "targetProfile" ∷ codes "aggregation" ∷ codes "versioning" ∷ []
own_names Binding = codes "strength" ∷ codes "description" ∷ codes "valueSet" ∷ []
own_names Constraint =
    codes "key" ∷ codes "requirements" ∷ codes "severity" ∷ codes "human" ∷ codes "expression" ∷ codes "xpath" ∷ codes "source" ∷ []
own_names Slicing = codes "discriminator" ∷ codes "description" ∷ codes "ordered" ∷ codes "rules" ∷ []
own_names Discriminator = codes "type" ∷ codes "path" ∷ []
own_names Base = codes "path" ∷ codes "min" ∷ codes "max" ∷ []
-- https://hl7.org/fhir/R4/valueset.html
own_names ValueSet = codes "immutable" ∷ codes "compose" ∷ codes "expansion" ∷ []
own_names Compose = codes "lockedDate" ∷ codes "inactive" ∷ codes "include" ∷ codes "exclude" ∷ []
own_names Include = codes "system" ∷ codes "version" ∷ codes "concept" ∷ codes "filter" ∷ codes "valueSet" ∷ []
own_names ListedConcept = codes "code" ∷ codes "display" ∷ codes "designation" ∷ []
own_names Filter = codes "property" ∷ codes "op" ∷ codes "value" ∷ []
-- https://hl7.org/fhir/R4/codesystem.html
own_names CodeSystem = code_system_names
own_names Concept =
    codes "code" ∷ codes "display" ∷ codes "definition" ∷ codes "designation" ∷ codes "property" ∷ codes "concept" ∷ []

-- it is the form of a choice of an element
abbrev pub is_form : Object → Text → Bool
is_form Element name = list_any (λ stem. is_choice stem name) element_stems
is_form _ name = false

-- R4 has it in the object, or it is a comment as old tools write it
abbrev pub is_name : Object → Text → Bool
is_name object name =
    is_among name (common_names object)
    || is_among name (own_names object)
    || is_form object name
    || starts_with nat_eq name (codes "fhir_comments")

abbrev pub underscore : ℕ
underscore = 95

-- the name of the primitive whose companion has this one (https://hl7.org/fhir/R4/json.html#primitive)
abbrev pub without_underscore : Text → Text
without_underscore [] = []
without_underscore (b ∷ bs) = if b == underscore then bs else b ∷ bs

abbrev pub is_known : Object → Text → Bool
is_known object name = is_name object (without_underscore name)
