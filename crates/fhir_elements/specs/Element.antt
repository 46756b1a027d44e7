-- The element that a tree is (FHIR R4, ElementDefinition): first whether it is one, and then its fields. A field that
-- isn't named here is passed over, and an empty array counts as an absent one.
use Rattle.std.specs.Prelude.{ℕ, ℤ, List, [], ◌∷◌, map, Bool, true, false, ◌&&◌, Option, None, Some, Result, Ok, Err, is_ok, codes}
use Rattle.std.specs.Option.{option_map, option_map_or, option_and_then}
use Rattle.std.specs.List.{list_all}
use Rattle.fhir_json.specs.Tree.{Text, Tree, Property}
use Rattle.fhir_json.specs.Fields.{field, is_object, text_in, text_at, count_in, items_in, choice_in, allows, allows_text, allows_count, allows_items}
use Rattle.fhir_json.specs.Fields.{allows_choice}
use Rattle.fhir_names.specs.Ids.{read_id}
use Rattle.fhir_elements.specs.declared.max.Max.{Max}
use Rattle.fhir_elements.specs.declared.reason.Reason.{Reason}
use Rattle.fhir_elements.specs.declared.reason.Reason.TheVariants.{WrongField, MinOverMax, RepeatedType, WrongId}
use Rattle.fhir_elements.specs.declared.fault.ElementFault.{ElementFault}
use Rattle.fhir_elements.specs.declared.fault.ElementFault.TheVariants.{Unfit, NoMemory}
use Rattle.fhir_elements.specs.Tests.{first_of}
use Rattle.fhir_elements.specs.Codes.{code_in, allows_code}
use Rattle.fhir_elements.specs.Max.{max_of, is_within}
use Rattle.fhir_elements.specs.Integers.{as_integer}
use Rattle.fhir_elements.specs.TypeEntry.{TypeEntry, is_type_entry, type_entry_of, codes_differ}
use Rattle.fhir_elements.specs.Constraint.{Constraint, is_constraint, constraint_of}
use Rattle.fhir_elements.specs.Binding.{Binding}
use Rattle.fhir_elements.specs.Slicing.{Slicing}
use Rattle.fhir_elements.specs.Binding.{is_binding, binding_of, required_set}
use Rattle.fhir_elements.specs.Slicing.{is_slicing, slicing_of}

-- The fields of an element. A choice, as `fixed[x]`, is its whole name, as `fixedCode`, with its value.
pub record Element : Type 0 where
  pub id : Text
  pub path : Option Text
  pub slice_name : Option Text
  pub min : Option ℕ
  pub max : Option Max
  pub types : List TypeEntry
  pub content_reference : Option Text
  pub fixed : Option Property
  pub pattern : Option Property
  pub min_value : Option Property
  pub max_value : Option Property
  pub max_length : Option ℤ
  pub binding : Option Binding
  pub constraints : List Constraint
  pub slicing : Option Slicing

-- the value set that an item's codes have to be in, if the element says so
abbrev pub required_value_set : Element → Option Text
required_value_set e = option_and_then required_set e.binding

-- ---- whether a tree is an element

-- an object in a field, absent or with its fields
abbrev pub allows_part : (Tree → Bool) → Text → Tree → Bool
allows_part fits name t = option_map_or fits (field name t) true

-- an array in a field, absent or of objects with their fields
abbrev pub allows_parts : (Tree → Bool) → Text → Tree → Bool
allows_parts fits name t = allows_items name t && list_all fits (items_in name t)

abbrev pub has_right_texts : Tree → Bool
has_right_texts t =
    allows_text (codes "id") t
    && allows_text (codes "path") t
    && allows_text (codes "sliceName") t
    && allows_text (codes "contentReference") t

abbrev pub has_right_numbers : Tree → Bool
has_right_numbers t =
    allows_count (codes "min") t
    && allows_code max_of (codes "max") t
    && allows as_integer (codes "maxLength") t

-- no choice has two forms
abbrev pub has_right_choices : Tree → Bool
has_right_choices t =
    allows_choice (codes "fixed") t
    && allows_choice (codes "pattern") t
    && allows_choice (codes "minValue") t
    && allows_choice (codes "maxValue") t

abbrev pub has_right_parts : Tree → Bool
has_right_parts t =
    allows_parts is_type_entry (codes "type") t
    && allows_parts is_constraint (codes "constraint") t
    && allows_part is_binding (codes "binding") t
    && allows_part is_slicing (codes "slicing") t

abbrev pub has_right_fields : Tree → Bool
has_right_fields t = is_object t && has_right_texts t && has_right_numbers t && has_right_choices t && has_right_parts t

-- the lower bound lies within the upper one, where both are there
abbrev pub has_right_bounds : Tree → Bool
has_right_bounds t =
    option_map_or (λ m. option_map_or (λ n. is_within n m) (count_in (codes "min") t) true) (code_in max_of (codes "max") t) true

abbrev pub has_readable_id : Tree → Bool
has_readable_id t = option_map_or (λ id. is_ok (read_id id)) (text_in (codes "id") t) false

-- what an element has to meet, each with the reason that applies where it doesn't
abbrev pub element_tests : Tree → List (Bool × Reason)
element_tests t =
    (has_right_fields t, WrongField)
    ∷ (has_right_bounds t, MinOverMax)
    ∷ (codes_differ (items_in (codes "type") t), RepeatedType)
    ∷ (has_readable_id t, WrongId)
    ∷ []

-- why a tree is no element: the first reason that applies
abbrev pub element_fault : Tree → Option Reason
element_fault t = first_of (element_tests t)

-- ---- the element that it is

abbrev pub fields_of : Tree → Element
fields_of t = record {
  id = text_at (codes "id") t;
  path = text_in (codes "path") t;
  slice_name = text_in (codes "sliceName") t;
  min = count_in (codes "min") t;
  max = code_in max_of (codes "max") t;
  types = map type_entry_of (items_in (codes "type") t);
  content_reference = text_in (codes "contentReference") t;
  fixed = choice_in (codes "fixed") t;
  pattern = choice_in (codes "pattern") t;
  min_value = choice_in (codes "minValue") t;
  max_value = choice_in (codes "maxValue") t;
  max_length = option_and_then as_integer (field (codes "maxLength") t);
  binding = option_map binding_of (field (codes "binding") t);
  constraints = map constraint_of (items_in (codes "constraint") t);
  slicing = option_map slicing_of (field (codes "slicing") t);
}

abbrev pub unless : {A : Type 0} → Option Reason → A → Result A ElementFault
unless (Some reason) x = Err (Unfit reason)
unless None x = Ok x

abbrev pub element_of : Tree → Result Element ElementFault
element_of t = unless (element_fault t) (fields_of t)

-- the fault that says that memory ran out
abbrev pub is_no_memory : ElementFault → Bool
is_no_memory (Unfit reason) = false
is_no_memory NoMemory = true
