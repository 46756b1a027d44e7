-- The forms of elements in JSON (FHIR R4, JSON representation of resources): under which property an element stands, once
-- for each of its types, and what that property holds. Type definitions alone say so, never a profile.
use Rattle.std.specs.Prelude.{ℕ, suc, List, [], ◌∷◌, ◌++◌, ◌-◌, map, length, take, Bool, true, false, not, ◌&&◌, ◌||◌, nat_eq, nat_le, Option, if◌then◌else◌, codes}
use Rattle.std.specs.Option.{option_map_or, option_or}
use Rattle.std.specs.List.{list_all, flat_map, slice_get, ends_with}
use Rattle.std.specs.Map.{lookup}
use Rattle.std.specs.Str.{bytes_eq}
use Rattle.fhir_json.specs.Tree.{Text}
use Rattle.fhir_json.specs.Sound.{differ}
use Rattle.fhir_elements.specs.Max.{allows_several}
use Rattle.fhir_elements.specs.Element.{Element}
use Rattle.fhir_definition.specs.Definition.{Definition}
use Rattle.fhir_nodes.specs.declared.node.NodeRef.{NodeRef}
use Rattle.fhir_forms.specs.declared.form.Content.{Content}
use Rattle.fhir_forms.specs.declared.form.Content.TheVariants.{Primitive, System, Resource, Complex}
use Rattle.fhir_forms.specs.declared.form.Property.{Property}
use Rattle.fhir_nodes.specs.Types.{names_resource, primitive_of, root_of_code, is_system}
use Rattle.fhir_nodes.specs.Slots.{Slot, slots_of}
use Rattle.fhir_nodes.specs.Holders.{child_holder, typing_entries}

pub record Form : Type 0 where
  -- the element's name, as `value[x]`
  pub name : Text
  -- the property's name, as `valueString`
  pub property : Text
  -- the code of the type
  pub code : Text
  -- the property holds an array, and not one value
  pub repeats : Bool
  pub content : Content

-- ---- the name of a property (FHIR R4, Formats, choice of data types)

abbrev pub is_choice : Text → Bool
is_choice name = ends_with nat_eq name (codes "[x]")

-- a small letter of ASCII as its capital
abbrev pub capital : ℕ → ℕ
capital b = if nat_le 97 b && nat_le b 122 then b - 32 else b

-- the text with its first letter in upper case
abbrev pub capitalised : Text → Text
capitalised [] = []
capitalised (b ∷ bs) = capital b ∷ bs

-- `value[x]` is spelled `value` and the type's code with its first letter in upper case
abbrev pub property_name : Text → Text → Text
property_name name code = if is_choice name then take (length name - 3) name ++ capitalised code else name

-- ---- what a property holds

-- the node by whose slots the children of an item of the type are typed: the one that has the element's children, if there are
-- any, and else the root of the type
abbrev pub typing_node : List Definition → NodeRef → Text → Option NodeRef
typing_node ds n code = option_or (child_holder ds n) (root_of_code ds code)

abbrev pub content_of : List Definition → NodeRef → Text → Content
content_of ds n code =
    if is_system code then System
    else (if names_resource ds code then Resource
    else option_map_or (λ prim. Primitive prim (typing_node ds n code)) (primitive_of ds code) (Complex (typing_node ds n code)))

-- an element is an array exactly where its type allows more than one
abbrev pub repeats : Element → Bool
repeats e = option_map_or allows_several e.max false

-- ---- the forms

module _ (ds : List Definition) (d : Definition) where
  abbrev pub slot_node : Slot → NodeRef
  slot_node slot = record { definition = d.place; element = slot.entry }

  abbrev pub form_of : Slot → Element → Text → Form
  form_of slot e code = record {
    name = slot.name;
    property = property_name slot.name code;
    code = code;
    repeats = repeats e;
    content = content_of ds (slot_node slot) code;
  }

  -- one for each of its types, which may be those of the element that it refers to for its content
  abbrev pub forms_with : Slot → Element → List Form
  forms_with slot e = map (λ entry. form_of slot e entry.code) (typing_entries ds (slot_node slot) e)

  abbrev pub slot_forms : Slot → List Form
  slot_forms slot = option_map_or (forms_with slot) (slice_get d.elements slot.entry) []

  -- one for each type of each slot, in the order of the definition
  abbrev pub forms_under : List Slot → List Form
  forms_under slots = flat_map slot_forms slots

-- ---- which property is whose

-- a primitive has a companion, a property of its own for its id and its extensions (FHIR R4, JSON, primitive elements)
abbrev pub is_primitive : Content → Bool
is_primitive (Primitive prim below) = true
is_primitive System = false
is_primitive Resource = false
is_primitive (Complex below) = false

-- `_` and the property's name
abbrev pub companion_name : Form → Text
companion_name f = 95 ∷ f.property

-- the name is that of a form's property, or of the property's companion
abbrev pub spells : Form → Text → Bool
spells f name = bytes_eq name f.property || (is_primitive f.content && bytes_eq name (companion_name f))

-- the names that a form spells, each with what it means, where the form stands at a place
abbrev pub spellings_of : ℕ → Form → List (Text × Property)
spellings_of place f =
    (f.property, record { form = place; is_companion = false })
    ∷ (if is_primitive f.content then (companion_name f, record { form = place; is_companion = true }) ∷ [] else [])

abbrev pub spellings_from : ℕ → List Form → List (Text × Property)
spellings_from place [] = []
spellings_from place (f ∷ fs) = spellings_of place f ++ spellings_from (suc place) fs

abbrev pub spellings : List Form → List (Text × Property)
spellings fs = spellings_from 0 fs

-- what the name of a property means: the first that is spelled so
abbrev pub property_of : List Form → Text → Option Property
property_of fs name = lookup (bytes_eq name) (spellings fs)

-- no two forms spell one property
abbrev pub are_apart : List Form → Bool
are_apart fs = differ (map (λ x. x.0) (spellings fs))

-- no two forms of one element's children spell one property, if it is a type definition
abbrev pub spells_apart : List Definition → Definition → Bool
spells_apart ds d = not d.is_type || list_all (λ slots. are_apart (forms_under ds d slots)) (slots_of ds d)

-- ---- the forms of each element of a definition

-- where two spell one property there are none, for the definition can't be used
abbrev pub if_apart : List Form → List Form
if_apart fs = if are_apart fs then fs else []

-- those of the children of each element; a profile has none
abbrev pub forms_of : List Definition → Definition → List (List Form)
forms_of ds d = if d.is_type then map (λ slots. if_apart (forms_under ds d slots)) (slots_of ds d) else []

-- those of each element of each definition
abbrev pub all_forms : List Definition → List (List (List Form))
all_forms ds = map (forms_of ds) ds
