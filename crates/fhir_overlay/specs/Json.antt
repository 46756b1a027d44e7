-- How an element is written as JSON (FHIR R4, ElementDefinition; JSON): an object with the members that the element has.
use Rattle.std.specs.Prelude.{List, [], ◌∷◌, ◌++◌, map, Option, None, Some, codes}
use Rattle.std.specs.Option.{option_map}
use Rattle.std.specs.List.{filter_map}
use Rattle.std.specs.Fmt.{decimal, signed_decimal}
use Rattle.fhir_json.specs.Tree.{Text, Tree, boolean, number, string, array, object, Property, items_of, members_of}
use Rattle.fhir_elements.specs.declared.max.Max.{Max}
use Rattle.fhir_elements.specs.declared.max.Max.TheVariants as bounds
use Rattle.fhir_elements.specs.declared.binding.Strength.{Strength}
use Rattle.fhir_elements.specs.declared.binding.Strength.TheVariants as strengths
use Rattle.fhir_elements.specs.declared.constraint.Severity.{Severity}
use Rattle.fhir_elements.specs.declared.constraint.Severity.TheVariants as severities
use Rattle.fhir_elements.specs.declared.slicing.DiscriminatorType.{DiscriminatorType}
use Rattle.fhir_elements.specs.declared.slicing.DiscriminatorType.TheVariants as discriminators
use Rattle.fhir_elements.specs.declared.slicing.SlicingRules.{SlicingRules}
use Rattle.fhir_elements.specs.declared.slicing.SlicingRules.TheVariants as slicings
use Rattle.fhir_elements.specs.TypeEntry.{TypeEntry}
use Rattle.fhir_elements.specs.Constraint.{Constraint}
use Rattle.fhir_elements.specs.Binding.{Binding}
use Rattle.fhir_elements.specs.Slicing.{Discriminator, Slicing}
use Rattle.fhir_elements.specs.Element.{Element}

-- ---- codes

abbrev pub max_code : Max → Text
max_code bounds.Unbounded = codes "*"
max_code (bounds.UpTo n) = decimal n

abbrev pub strength_code : Strength → Text
strength_code strengths.Required = codes "required"
strength_code strengths.Extensible = codes "extensible"
strength_code strengths.Preferred = codes "preferred"
strength_code strengths.Example = codes "example"

abbrev pub severity_code : Severity → Text
severity_code severities.Error = codes "error"
severity_code severities.Warning = codes "warning"

abbrev pub discriminator_code : DiscriminatorType → Text
discriminator_code discriminators.Value = codes "value"
discriminator_code discriminators.Exists = codes "exists"
discriminator_code discriminators.Pattern = codes "pattern"
discriminator_code discriminators.TypeCode = codes "type"
discriminator_code discriminators.Profile = codes "profile"

abbrev pub rules_code : SlicingRules → Text
rules_code slicings.Closed = codes "closed"
rules_code slicings.Open = codes "open"
rules_code slicings.OpenAtEnd = codes "openAtEnd"

-- ---- members, each where there is something to write

abbrev pub member_if : Text → Option Tree → Option Property
member_if name value = option_map (λ t. (name, t)) value

abbrev pub text_member : Text → Option Text → Option Property
text_member name text = member_if name (option_map string text)

-- none where there is no item
abbrev pub filled_array : List Tree → Option Tree
filled_array [] = None
filled_array (t ∷ ts) = Some (array (items_of (t ∷ ts)))

abbrev pub array_member : Text → List Tree → Option Property
array_member name ts = member_if name (filled_array ts)

-- those that are there
abbrev pub present : List (Option Property) → List Property
present ms = filter_map (λ m. m) ms

abbrev pub object_of : List (Option Property) → Tree
object_of ms = object (members_of (present ms))

-- ---- the parts of an element

abbrev pub type_entry_tree : TypeEntry → Tree
type_entry_tree entry =
    object_of
    (text_member (codes "code") (Some entry.code)
    ∷ array_member (codes "profile") (map string entry.profiles)
    ∷ array_member (codes "targetProfile") (map string entry.targets)
    ∷ [])

abbrev pub constraint_tree : Constraint → Tree
constraint_tree c =
    object_of
    (text_member (codes "key") (Some c.key)
    ∷ text_member (codes "severity") (option_map severity_code c.severity)
    ∷ text_member (codes "expression") c.expression
    ∷ [])

abbrev pub binding_tree : Binding → Tree
binding_tree b =
    object_of
    (text_member (codes "strength") (option_map strength_code b.strength)
    ∷ text_member (codes "valueSet") b.value_set
    ∷ [])

abbrev pub discriminator_tree : Discriminator → Tree
discriminator_tree d =
    object_of
    (text_member (codes "type") (option_map discriminator_code d.by)
    ∷ text_member (codes "path") d.path
    ∷ [])

abbrev pub slicing_tree : Slicing → Tree
slicing_tree s =
    object_of
    (array_member (codes "discriminator") (map discriminator_tree s.discriminators)
    ∷ member_if (codes "ordered") (option_map boolean s.ordered)
    ∷ text_member (codes "rules") (option_map rules_code s.rules)
    ∷ [])

-- ---- an element

-- which element it is
abbrev pub naming_members : Element → List (Option Property)
naming_members e =
    text_member (codes "id") (Some e.id)
    ∷ text_member (codes "path") e.path
    ∷ text_member (codes "sliceName") e.slice_name
    ∷ []

-- how many there are
abbrev pub counting_members : Element → List (Option Property)
counting_members e =
    member_if (codes "slicing") (option_map slicing_tree e.slicing)
    ∷ member_if (codes "min") (option_map (λ n. number (decimal n)) e.min)
    ∷ text_member (codes "max") (option_map max_code e.max)
    ∷ []

-- what it is of
abbrev pub typing_members : Element → List (Option Property)
typing_members e =
    text_member (codes "contentReference") e.content_reference
    ∷ array_member (codes "type") (map type_entry_tree e.types)
    ∷ []

-- what a value is like
abbrev pub value_members : Element → List (Option Property)
value_members e =
    e.fixed
    ∷ e.pattern
    ∷ e.min_value
    ∷ e.max_value
    ∷ member_if (codes "maxLength") (option_map (λ n. number (signed_decimal n)) e.max_length)
    ∷ []

-- what it has to meet besides
abbrev pub rule_members : Element → List (Option Property)
rule_members e =
    array_member (codes "constraint") (map constraint_tree e.constraints)
    ∷ member_if (codes "binding") (option_map binding_tree e.binding)
    ∷ []

abbrev pub element_tree : Element → Tree
element_tree e = object_of (naming_members e ++ counting_members e ++ typing_members e ++ value_members e ++ rule_members e)
