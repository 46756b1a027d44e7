-- What stands in the fields of an element that is written.
use Rattle.std.proofs.Common.{◌≡◌, List, [], ◌∷◌, ◌++◌, map, Bool, true, false, Option, Some, IsTrue, refl, ◌∙◌, if◌then◌else◌}
use Rattle.std.specs.Prelude.{codes}
use Rattle.std.specs.Fmt.{decimal, signed_decimal}
use Rattle.std.specs.Option.{option_map}
use Rattle.fhir_json.specs.Tree.{Text, string, number, Property}
use Rattle.fhir_json.specs.Fields.{field, choice_in, allows_choice, is_choice}
use Rattle.fhir_elements.specs.Element.{Element}
use Rattle.fhir_overlay.specs.Json.{member_if, max_code, filled_array, object_of, type_entry_tree, constraint_tree, binding_tree, slicing_tree, naming_members, counting_members, typing_members, rule_members, element_tree}
use Rattle.fhir_overlay.specs.Writable.{is_named, has_named_choices}
use Rattle.fhir_overlay.proofs.Truths.{four}
use Rattle.fhir_overlay.proofs.Lookups.{field-more, taken-named, taken-choice, or_none, choice_in-more, allows_choice-more, chosen-named, chosen-own, chosen-other}

-- ---- the names of its choices

pub record Named (e : Element) : Type 0 where
  pub fixed : IsTrue (is_named (codes "fixed") e.fixed)
  pub pattern : IsTrue (is_named (codes "pattern") e.pattern)
  pub min_value : IsTrue (is_named (codes "minValue") e.min_value)
  pub max_value : IsTrue (is_named (codes "maxValue") e.max_value)

pub named_parts : (e : Element) → IsTrue (has_named_choices e) → Named e
named_parts e h =
    let parts = four (is_named (codes "fixed") e.fixed) (is_named (codes "pattern") e.pattern) (is_named (codes "minValue") e.min_value)
    (is_named (codes "maxValue") e.max_value) h in
    record { fixed = parts.0; pattern = parts.1; min_value = parts.2; max_value = parts.3 }

-- ---- fields that are no choices

-- the members that have one name
abbrev pub other_members : Element → List (Option Property)
other_members e =
    naming_members e ++ counting_members e ++ typing_members e
    ++ (member_if (codes "maxLength") (option_map (λ n. number (signed_decimal n)) e.max_length) ∷ [])
    ++ rule_members e

choices_aside : (name : Text) (e : Element) → Named e → is_choice (codes "fixed") name ≡ false → is_choice (codes "pattern") name ≡ false
    → is_choice (codes "minValue") name ≡ false → is_choice (codes "maxValue") name ≡ false
    → field name (element_tree e) ≡ field name (object_of (other_members e))
choices_aside name e named first second third fourth =
    let no_fixed = taken-choice (codes "fixed") name e.fixed named.fixed first in
    let no_pattern = taken-choice (codes "pattern") name e.pattern named.pattern second in
    let no_min = taken-choice (codes "minValue") name e.min_value named.min_value third in
    let no_max = taken-choice (codes "maxValue") name e.max_value named.max_value fourth in
    simp (field-more, no_fixed, no_pattern, no_min, no_max)

pub field-id : (e : Element) → Named e → field (codes "id") (element_tree e) ≡ Some (string e.id)
field-id e named = refl

pub field-path : (e : Element) → Named e → field (codes "path") (element_tree e) ≡ option_map string e.path
field-path e named = choices_aside (codes "path") e named refl refl refl refl ∙ simp (field-more, taken-named, or_none)

pub field-slice_name : (e : Element) → Named e → field (codes "sliceName") (element_tree e) ≡ option_map string e.slice_name
field-slice_name e named = choices_aside (codes "sliceName") e named refl refl refl refl ∙ simp (field-more, taken-named, or_none)

pub field-slicing : (e : Element) → Named e → field (codes "slicing") (element_tree e) ≡ option_map slicing_tree e.slicing
field-slicing e named = choices_aside (codes "slicing") e named refl refl refl refl ∙ simp (field-more, taken-named, or_none)

pub field-min : (e : Element) → Named e → field (codes "min") (element_tree e) ≡ option_map (λ n. number (decimal n)) e.min
field-min e named = choices_aside (codes "min") e named refl refl refl refl ∙ simp (field-more, taken-named, or_none)

pub field-max : (e : Element) → Named e → field (codes "max") (element_tree e) ≡ option_map string (option_map max_code e.max)
field-max e named = choices_aside (codes "max") e named refl refl refl refl ∙ simp (field-more, taken-named, or_none)

pub field-content_reference : (e : Element) → Named e → field (codes "contentReference") (element_tree e) ≡ option_map string e.content_reference
field-content_reference e named =
    choices_aside (codes "contentReference") e named refl refl refl refl ∙ simp (field-more, taken-named, or_none)

pub field-type : (e : Element) → Named e → field (codes "type") (element_tree e) ≡ filled_array (map type_entry_tree e.types)
field-type e named = choices_aside (codes "type") e named refl refl refl refl ∙ simp (field-more, taken-named, or_none)

pub field-max_length : (e : Element) → Named e
    → field (codes "maxLength") (element_tree e) ≡ option_map (λ n. number (signed_decimal n)) e.max_length
field-max_length e named = choices_aside (codes "maxLength") e named refl refl refl refl ∙ simp (field-more, taken-named, or_none)

pub field-constraint : (e : Element) → Named e → field (codes "constraint") (element_tree e) ≡ filled_array (map constraint_tree e.constraints)
field-constraint e named = choices_aside (codes "constraint") e named refl refl refl refl ∙ simp (field-more, taken-named, or_none)

pub field-binding : (e : Element) → Named e → field (codes "binding") (element_tree e) ≡ option_map binding_tree e.binding
field-binding e named = choices_aside (codes "binding") e named refl refl refl refl ∙ simp (field-more, taken-named, or_none)

-- ---- choices

pub choice-fixed : (e : Element) → Named e → choice_in (codes "fixed") (element_tree e) ≡ e.fixed
choice-fixed e named =
    let own = chosen-own (codes "fixed") e.fixed named.fixed in
    let no_pattern = chosen-other (codes "pattern") (codes "fixed") e.pattern named.pattern refl in
    let no_min = chosen-other (codes "minValue") (codes "fixed") e.min_value named.min_value refl in
    let no_max = chosen-other (codes "maxValue") (codes "fixed") e.max_value named.max_value refl in
    simp (choice_in-more, chosen-named, own, no_pattern, no_min, no_max, or_none)

pub choice-pattern : (e : Element) → Named e → choice_in (codes "pattern") (element_tree e) ≡ e.pattern
choice-pattern e named =
    let own = chosen-own (codes "pattern") e.pattern named.pattern in
    let no_fixed = chosen-other (codes "fixed") (codes "pattern") e.fixed named.fixed refl in
    let no_min = chosen-other (codes "minValue") (codes "pattern") e.min_value named.min_value refl in
    let no_max = chosen-other (codes "maxValue") (codes "pattern") e.max_value named.max_value refl in
    simp (choice_in-more, chosen-named, own, no_fixed, no_min, no_max, or_none)

pub choice-min_value : (e : Element) → Named e → choice_in (codes "minValue") (element_tree e) ≡ e.min_value
choice-min_value e named =
    let own = chosen-own (codes "minValue") e.min_value named.min_value in
    let no_fixed = chosen-other (codes "fixed") (codes "minValue") e.fixed named.fixed refl in
    let no_pattern = chosen-other (codes "pattern") (codes "minValue") e.pattern named.pattern refl in
    let no_max = chosen-other (codes "maxValue") (codes "minValue") e.max_value named.max_value refl in
    simp (choice_in-more, chosen-named, own, no_fixed, no_pattern, no_max, or_none)

pub choice-max_value : (e : Element) → Named e → choice_in (codes "maxValue") (element_tree e) ≡ e.max_value
choice-max_value e named =
    let own = chosen-own (codes "maxValue") e.max_value named.max_value in
    let no_fixed = chosen-other (codes "fixed") (codes "maxValue") e.fixed named.fixed refl in
    let no_pattern = chosen-other (codes "pattern") (codes "maxValue") e.pattern named.pattern refl in
    let no_min = chosen-other (codes "minValue") (codes "maxValue") e.min_value named.min_value refl in
    simp (choice_in-more, chosen-named, own, no_fixed, no_pattern, no_min, or_none)

either_way : (b : Bool) → (if b then true else true) ≡ true
either_way true = refl
either_way false = refl

pub allowed-fixed : (e : Element) → Named e → allows_choice (codes "fixed") (element_tree e) ≡ true
allowed-fixed e named =
    let own = chosen-own (codes "fixed") e.fixed named.fixed in
    let no_pattern = chosen-other (codes "pattern") (codes "fixed") e.pattern named.pattern refl in
    let no_min = chosen-other (codes "minValue") (codes "fixed") e.min_value named.min_value refl in
    let no_max = chosen-other (codes "maxValue") (codes "fixed") e.max_value named.max_value refl in
    simp (allows_choice-more, choice_in-more, chosen-named, own, no_pattern, no_min, no_max, either_way)

pub allowed-pattern : (e : Element) → Named e → allows_choice (codes "pattern") (element_tree e) ≡ true
allowed-pattern e named =
    let own = chosen-own (codes "pattern") e.pattern named.pattern in
    let no_fixed = chosen-other (codes "fixed") (codes "pattern") e.fixed named.fixed refl in
    let no_min = chosen-other (codes "minValue") (codes "pattern") e.min_value named.min_value refl in
    let no_max = chosen-other (codes "maxValue") (codes "pattern") e.max_value named.max_value refl in
    simp (allows_choice-more, choice_in-more, chosen-named, own, no_fixed, no_min, no_max, either_way)

pub allowed-min_value : (e : Element) → Named e → allows_choice (codes "minValue") (element_tree e) ≡ true
allowed-min_value e named =
    let own = chosen-own (codes "minValue") e.min_value named.min_value in
    let no_fixed = chosen-other (codes "fixed") (codes "minValue") e.fixed named.fixed refl in
    let no_pattern = chosen-other (codes "pattern") (codes "minValue") e.pattern named.pattern refl in
    let no_max = chosen-other (codes "maxValue") (codes "minValue") e.max_value named.max_value refl in
    simp (allows_choice-more, choice_in-more, chosen-named, own, no_fixed, no_pattern, no_max, either_way)

pub allowed-max_value : (e : Element) → Named e → allows_choice (codes "maxValue") (element_tree e) ≡ true
allowed-max_value e named =
    let own = chosen-own (codes "maxValue") e.max_value named.max_value in
    let no_fixed = chosen-other (codes "fixed") (codes "maxValue") e.fixed named.fixed refl in
    let no_pattern = chosen-other (codes "pattern") (codes "maxValue") e.pattern named.pattern refl in
    let no_min = chosen-other (codes "minValue") (codes "maxValue") e.min_value named.min_value refl in
    simp (allows_choice-more, choice_in-more, chosen-named, own, no_fixed, no_pattern, no_min, either_way)
