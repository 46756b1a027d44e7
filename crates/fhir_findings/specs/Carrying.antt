-- What definitions and their elements carry that isn't judged, whatever the resource is.
use Rattle.std.specs.Prelude.{ℕ, List, [], ◌∷◌, ◌++◌, map, get_or, Bool, true, false, Option, None, Some, is_none, codes, if◌then◌else◌}
use Rattle.std.specs.List.{flat_map, enumerate_from}
use Rattle.std.specs.Option.{option_map_or}
use Rattle.fhir_json.specs.Tree.{Text, Tree}
use Rattle.fhir_json.specs.Fields.{text_in}
use Rattle.fhir_package.specs.declared.kind.Kind.{Kind}
use Rattle.fhir_package.specs.declared.kind.Kind.TheVariants.{StructureDefinition, ValueSet}
use Rattle.fhir_package.specs.Definitions.{Definitions}
use Rattle.fhir_package.specs.Canonical.{named_by}
use Rattle.fhir_package.specs.Surveying.{Surveyed}
use Rattle.fhir_elements.specs.Constraint.{Constraint}
use Rattle.fhir_elements.specs.Element.{Element}
use Rattle.fhir_nodes.specs.declared.node.NodeRef.{NodeRef}
use Rattle.fhir_schema.specs.Schemas.{SchemaValue, is_usable, elements_at}
use Rattle.fhir_facets.specs.Unread.{Unread, range, target, profile, binding, expression, constraint, unread_text}
use Rattle.fhir_facets.specs.Carried.{constraint_unread}
use Rattle.fhir_findings.specs.Selecting.{SelectionValue, is_selected}
use Rattle.fhir_findings.specs.Undecided.{element_rules}
use Rattle.fhir_findings.specs.Firsts.{firsts}

-- what is carried: an unread rule; or, of a definition, a base that the package lacks
pub data Carried : Type 0 where
  rule : Unread → Carried
  base : (canonical : List ℕ) → Carried

-- as it is printed
abbrev pub carried_text : Carried → Text
carried_text (rule u) = codes "unread " ++ unread_text u
carried_text (base canonical) = codes "base " ++ canonical

-- what carries it: the file and the url of a definition, and the id of an element, or none where it is the definition; of a constraint
-- its key; and whether it names a definition that the package lacks
pub record Carrier : Type 0 where
  pub file : Text
  pub url : Text
  pub id : Text
  pub carried : Carried
  pub key : Option Text
  pub lacks : Bool

abbrev pub text_of : Carrier → Text
text_of c = carried_text c.carried

-- ---- definitions that the package lacks

-- no definition of the kind is named by the canonical
abbrev pub lacks_definition : Definitions → Kind → Text → Bool
lacks_definition p kind canonical = is_none (named_by kind canonical p)

-- the rule names one
abbrev pub lacks : Definitions → Unread → Bool
lacks p (range property value) = false
lacks p (target canonical) = lacks_definition p StructureDefinition canonical
lacks p (profile canonical) = lacks_definition p StructureDefinition canonical
lacks p (binding canonical) = lacks_definition p ValueSet canonical
lacks p (expression text) = false
lacks p (constraint key) = false

-- ---- elements

-- where something stands: the package, the file and the url of a definition, and the id of an element
pub record Spot : Type 0 where
  pub definitions : Definitions
  pub file : Text
  pub url : Text
  pub id : Text

-- a rule that stands there, with the key of a constraint
abbrev pub carrier_of : Spot → Option Text → Unread → Carrier
carrier_of at key u =
    record { file = at.file; url = at.url; id = at.id; carried = rule u; key = key; lacks = lacks at.definitions u }

abbrev pub constraint_carriers : Spot → Constraint → List Carrier
constraint_carriers at c = map (carrier_of at (Some c.key)) (constraint_unread c)

-- a node's element that stands there, with each of its unread rules in order
abbrev pub rule_carriers : SchemaValue → Spot → NodeRef → Element → List Carrier
rule_carriers s at n e = map (carrier_of at None) (element_rules s n e) ++ flat_map (constraint_carriers at) e.constraints

-- ---- definitions

-- the element at a place of the definition at a place, with each text once
abbrev pub element_carriers : SchemaValue → Spot → ℕ → ℕ × Element → List Carrier
element_carriers s at place e =
    firsts text_of (rule_carriers s (record at { id = e.1.id }) (record { definition = place; element = e.0 }) e.1)

-- the elements of a definition that can be used
abbrev pub usable_carriers : SchemaValue → Spot → ℕ → List Carrier
usable_carriers s at place =
    if is_usable s place then flat_map (element_carriers s at place) (enumerate_from 0 (elements_at s place)) else []

-- the definition, with a base that the package lacks
abbrev pub base_carrier : Spot → Text → List Carrier
base_carrier at canonical =
    if lacks_definition at.definitions StructureDefinition canonical
    then record { file = at.file; url = at.url; id = at.id; carried = base canonical; key = None; lacks = true } ∷ []
    else []

abbrev pub base_carriers : Spot → Tree → List Carrier
base_carriers at t = option_map_or (base_carrier at) (text_in (codes "baseDefinition") t) []

-- where the definition at a place stands
abbrev pub spot_of : Surveyed → ℕ → Text → Spot
spot_of survey place url =
    record { definitions = survey.definitions; file = get_or survey.sources.structure_definitions place []; url = url; id = [] }

-- the definition of a url and a tree at a place, with its base, and then its elements
abbrev pub definition_carriers : SchemaValue → Surveyed → ℕ × (Text × Tree) → List Carrier
definition_carriers s survey d =
    base_carriers (spot_of survey d.0 d.1.0) d.1.1 ++ usable_carriers s (spot_of survey d.0 d.1.0) d.0

abbrev pub selected_carriers : SelectionValue → SchemaValue → Surveyed → ℕ × (Text × Tree) → List Carrier
selected_carriers selection s survey d =
    if is_selected selection survey.definitions StructureDefinition d.1.0 then definition_carriers s survey d else []

-- all of the definitions that are reported on, in order
abbrev pub all_carriers : SelectionValue → SchemaValue → Surveyed → List Carrier
all_carriers selection s survey = flat_map (selected_carriers selection s survey) (enumerate_from 0 survey.definitions.structure_definitions)
