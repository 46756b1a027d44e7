-- An element that can be written, and whose bounds fit, is the one that is read of its tree.
use Rattle.std.proofs.Common.{◌≡◌, ℕ, ℤ, List, [], ◌∷◌, map, Bool, true, Option, None, Some, Ok, IsTrue, is_some, is_ok, refl, sym, ap, ◌∙◌}
use Rattle.std.specs.Prelude.{codes, ◌&&◌}
use Rattle.std.specs.List.{list_all}
use Rattle.std.specs.Option.{option_map, option_map_or, option_and_then}
use Rattle.fhir_json.specs.Tree.{Text, Tree, string, list_of, Property}
use Rattle.fhir_json.specs.Fields.{field, as_text, as_number, as_items, is_array, count_of, count_in, text_in, items_in}
use Rattle.fhir_json.specs.Sound.{differ}
use Rattle.fhir_names.specs.Ids.{read_id}
use Rattle.fhir_elements.specs.declared.max.Max.{Max}
use Rattle.fhir_elements.specs.declared.reason.Reason.{Reason}
use Rattle.fhir_elements.specs.declared.reason.Reason.TheVariants.{WrongField, MinOverMax, RepeatedType, WrongId}
use Rattle.fhir_elements.specs.Tests.{first_of}
use Rattle.fhir_elements.specs.Codes.{code_in}
use Rattle.fhir_elements.specs.Max.{max_of, is_within}
use Rattle.fhir_elements.specs.Integers.{as_integer}
use Rattle.fhir_elements.specs.TypeEntry.{TypeEntry, is_type_entry, type_entry_of, codes_differ}
use Rattle.fhir_elements.specs.Constraint.{Constraint, is_constraint, constraint_of}
use Rattle.fhir_elements.specs.Binding.{Binding, is_binding, binding_of}
use Rattle.fhir_elements.specs.Slicing.{Slicing, is_slicing, slicing_of}
use Rattle.fhir_elements.specs.Element.{Element, has_right_texts, has_right_numbers, has_right_choices, has_right_parts, has_right_fields, has_right_bounds, has_readable_id, element_fault, fields_of, unless, element_of}
use Rattle.fhir_overlay.specs.Overlay.{bounds_fit}
use Rattle.fhir_overlay.specs.Json.{max_code, filled_array, type_entry_tree, constraint_tree, binding_tree, slicing_tree, element_tree}
use Rattle.fhir_overlay.specs.Writable.{is_count, is_max, is_integer, is_writable}
use Rattle.fhir_overlay.proofs.Truths.{both, three, all_three, all_four}
use Rattle.fhir_overlay.proofs.Laying.{writable_parts}
use Rattle.fhir_overlay.proofs.Numbers.{max_again}
use Rattle.fhir_overlay.proofs.Reading.{types_differ}
use Rattle.fhir_overlay.proofs.Fields.{Named, named_parts, field-path, field-slice_name, field-slicing, field-min, field-max, field-content_reference, field-type, field-max_length, field-constraint, field-binding, choice-fixed, choice-pattern, choice-min_value, choice-max_value, allowed-fixed, allowed-pattern, allowed-min_value, allowed-max_value}
use Rattle.fhir_overlay.proofs.Back.{text_again, text_allowed, code_again, code_allowed, min_again, min_allowed, length_again, length_allowed, items_again, items_allowed, map_again, map_allowed, type_again, type_fits, constraint_again, constraint_fits, binding_again, binding_fits, slicing_again, slicing_fits}

-- what makes an element one that can be written
record Fits (e : Element) : Type 0 where
  readable : IsTrue (is_ok (read_id e.id))
  min : IsTrue (option_map_or is_count e.min true)
  max : IsTrue (option_map_or is_max e.max true)
  max_length : IsTrue (option_map_or is_integer e.max_length true)
  differ : IsTrue (differ (map (λ t. t.code) e.types))
  named : Named e

fits : (e : Element) → IsTrue (is_writable e) → Fits e
fits e h =
    let parts = writable_parts e h in
    let numbers = three (option_map_or is_count e.min true) (option_map_or is_max e.max true) (option_map_or is_integer e.max_length true) parts.1 in
    record {
      readable = parts.0;
      min = numbers.0;
      max = numbers.1;
      max_length = numbers.2;
      differ = parts.2;
      named = named_parts e parts.3;
    }

-- ---- its texts and numbers

text_is : (f : Option Tree) (o : Option Text) → f ≡ option_map string o → option_and_then as_text f ≡ o
text_is f o is = ap (option_and_then as_text) is ∙ text_again o

text_fits : (f : Option Tree) (o : Option Text) → f ≡ option_map string o → option_map_or (λ v. is_some (as_text v)) f true ≡ true
text_fits f o is = ap (λ g. option_map_or (λ v. is_some (as_text v)) g true) is ∙ text_allowed o

min_is : (e : Element) → Fits e → count_in (codes "min") (element_tree e) ≡ e.min
min_is e h = ap (λ f. option_and_then count_of (option_and_then as_number f)) (field-min e h.named) ∙ min_again e.min h.min

max_is : (e : Element) → Fits e → code_in max_of (codes "max") (element_tree e) ≡ e.max
max_is e h =
    ap (λ f. option_and_then max_of (option_and_then as_text f)) (field-max e h.named) ∙ code_again max_of max_code is_max max_again e.max h.max

length_is : (e : Element) → Fits e → option_and_then as_integer (field (codes "maxLength") (element_tree e)) ≡ e.max_length
length_is e h = ap (option_and_then as_integer) (field-max_length e h.named) ∙ length_again e.max_length h.max_length

-- ---- its parts

items_are : {A : Type 0} (write : A → Tree) (f : Option Tree) (xs : List A) → f ≡ filled_array (map write xs)
    → option_map_or (λ v. list_of (as_items v)) f [] ≡ map write xs
items_are write f xs is = ap (λ g. option_map_or (λ v. list_of (as_items v)) g []) is ∙ items_again (map write xs)

items_fit : {A : Type 0} (test : Tree → Bool) (write : A → Tree) (f : Option Tree) (xs : List A) → ((x : A) → IsTrue (test (write x)))
    → f ≡ filled_array (map write xs)
    → IsTrue (option_map_or is_array f true && list_all test (option_map_or (λ v. list_of (as_items v)) f []))
items_fit test write f xs good is =
    both _ _ (ap (λ g. option_map_or is_array g true) is ∙ items_allowed (map write xs))
    (ap (list_all test) (items_are write f xs is) ∙ map_allowed test write good xs)

part_is : {A : Type 0} (read : Tree → A) (write : A → Tree) → ((x : A) → read (write x) ≡ x) → (f : Option Tree) (o : Option A)
    → f ≡ option_map write o → option_map read f ≡ o
part_is read write back f None is = ap (option_map read) is
part_is read write back f (Some x) is = ap (option_map read) is ∙ ap Some (back x)

part_fits : {A : Type 0} (test : Tree → Bool) (write : A → Tree) → ((x : A) → IsTrue (test (write x))) → (f : Option Tree) (o : Option A)
    → f ≡ option_map write o → IsTrue (option_map_or test f true)
part_fits test write good f None is = ap (λ g. option_map_or test g true) is
part_fits test write good f (Some x) is = ap (λ g. option_map_or test g true) is ∙ good x

types_are : (e : Element) → Fits e → items_in (codes "type") (element_tree e) ≡ map type_entry_tree e.types
types_are e h = items_are type_entry_tree _ e.types (field-type e h.named)

-- ---- its fields are right

texts_right : (e : Element) → Fits e → IsTrue (has_right_texts (element_tree e))
texts_right e h =
    all_four true _ _ _ refl (text_fits _ e.path (field-path e h.named)) (text_fits _ e.slice_name (field-slice_name e h.named))
    (text_fits _ e.content_reference (field-content_reference e h.named))

numbers_right : (e : Element) → Fits e → IsTrue (has_right_numbers (element_tree e))
numbers_right e h =
    all_three _ _ _
    (ap (λ f. option_map_or (λ v. is_some (option_and_then count_of (as_number v))) f true) (field-min e h.named) ∙ min_allowed e.min h.min)
    (ap (λ f. option_map_or (λ v. is_some (option_and_then max_of (as_text v))) f true) (field-max e h.named)
    ∙ code_allowed max_of max_code is_max max_again e.max h.max)
    (ap (λ f. option_map_or (λ v. is_some (as_integer v)) f true) (field-max_length e h.named) ∙ length_allowed e.max_length h.max_length)

choices_right : (e : Element) → Fits e → IsTrue (has_right_choices (element_tree e))
choices_right e h =
    all_four _ _ _ _ (allowed-fixed e h.named) (allowed-pattern e h.named) (allowed-min_value e h.named) (allowed-max_value e h.named)

parts_right : (e : Element) → Fits e → IsTrue (has_right_parts (element_tree e))
parts_right e h =
    all_four _ _ _ _ (items_fit is_type_entry type_entry_tree _ e.types type_fits (field-type e h.named))
    (items_fit is_constraint constraint_tree _ e.constraints constraint_fits (field-constraint e h.named))
    (part_fits is_binding binding_tree binding_fits _ e.binding (field-binding e h.named))
    (part_fits is_slicing slicing_tree slicing_fits _ e.slicing (field-slicing e h.named))

fields_right : (e : Element) → Fits e → IsTrue (has_right_fields (element_tree e))
fields_right e h =
    both _ _ (all_four true _ _ _ refl (texts_right e h) (numbers_right e h) (choices_right e h)) (parts_right e h)

-- ---- it is the element

bounds_right : (e : Element) → Fits e → IsTrue (bounds_fit e) → IsTrue (has_right_bounds (element_tree e))
bounds_right e h fit =
    ap (λ n. option_map_or (λ m. option_map_or (λ k. is_within k m) n true) (code_in max_of (codes "max") (element_tree e)) true) (min_is e h)
    ∙ ap (λ m. option_map_or (λ n. option_map_or (λ k. is_within k n) e.min true) m true) (max_is e h) ∙ fit

types_right : (e : Element) → Fits e → IsTrue (codes_differ (items_in (codes "type") (element_tree e)))
types_right e h =
    ap codes_differ (types_are e h) ∙ sym (types_differ (map type_entry_tree e.types))
    ∙ ap (λ ts. differ (map (λ t. t.code) ts)) (map_again type_entry_of type_entry_tree type_again e.types) ∙ h.differ

no_fault : (a b c d : Bool) (r s u v : Reason) → IsTrue a → IsTrue b → IsTrue c → IsTrue d
    → first_of ((a, r) ∷ (b, s) ∷ (c, u) ∷ (d, v) ∷ []) ≡ None
no_fault a b c d r s u v h i j k = rw (h, i, j, k) refl

faultless : (e : Element) → Fits e → IsTrue (bounds_fit e) → element_fault (element_tree e) ≡ None
faultless e h fit =
    no_fault (has_right_fields (element_tree e)) (has_right_bounds (element_tree e)) (codes_differ (items_in (codes "type") (element_tree e)))
    (has_readable_id (element_tree e)) WrongField MinOverMax RepeatedType WrongId (fields_right e h) (bounds_right e h fit) (types_right e h)
    h.readable

-- the element of these fields
made : Text → Option Text → Option Text → Option ℕ → Option Max → List TypeEntry → Option Text → Option Property → Option Property → Option Property → Option Property → Option ℤ → Option Binding → List Constraint → Option Slicing → Element
made id path slice_name min max types content_reference fixed pattern min_value max_value max_length binding constraints slicing = record {
  id = id;
  path = path;
  slice_name = slice_name;
  min = min;
  max = max;
  types = types;
  content_reference = content_reference;
  fixed = fixed;
  pattern = pattern;
  min_value = min_value;
  max_value = max_value;
  max_length = max_length;
  binding = binding;
  constraints = constraints;
  slicing = slicing;
}

whole : (e : Element) → made e.id e.path e.slice_name e.min e.max e.types e.content_reference e.fixed e.pattern e.min_value e.max_value e.max_length e.binding e.constraints e.slicing ≡ e
unfolding made
whole e = refl

-- elements are the same where their fields are
element_is : (a b : Element) → a.id ≡ b.id → a.path ≡ b.path → a.slice_name ≡ b.slice_name → a.min ≡ b.min → a.max ≡ b.max → a.types ≡ b.types → a.content_reference ≡ b.content_reference → a.fixed ≡ b.fixed → a.pattern ≡ b.pattern → a.min_value ≡ b.min_value → a.max_value ≡ b.max_value → a.max_length ≡ b.max_length → a.binding ≡ b.binding → a.constraints ≡ b.constraints → a.slicing ≡ b.slicing → a ≡ b
element_is a b id path slice_name min max types content_reference fixed pattern min_value max_value max_length binding constraints slicing =
    let fields : made a.id a.path a.slice_name a.min a.max a.types a.content_reference a.fixed a.pattern a.min_value a.max_value a.max_length a.binding a.constraints a.slicing ≡ made b.id b.path b.slice_name b.min b.max b.types b.content_reference b.fixed b.pattern b.min_value b.max_value b.max_length b.binding b.constraints b.slicing = cc in
    sym (whole a) ∙ fields ∙ whole b

same : (e : Element) → Fits e → fields_of (element_tree e) ≡ e
same e h =
    let path : text_in (codes "path") (element_tree e) ≡ e.path = text_is _ e.path (field-path e h.named) in
    let slice_name : text_in (codes "sliceName") (element_tree e) ≡ e.slice_name = text_is _ e.slice_name (field-slice_name e h.named) in
    let min : count_in (codes "min") (element_tree e) ≡ e.min = min_is e h in
    let max : code_in max_of (codes "max") (element_tree e) ≡ e.max = max_is e h in
    let types : map type_entry_of (items_in (codes "type") (element_tree e)) ≡ e.types =
    ap (map type_entry_of) (types_are e h) ∙ map_again type_entry_of type_entry_tree type_again e.types in
    let content_reference : text_in (codes "contentReference") (element_tree e) ≡ e.content_reference =
    text_is _ e.content_reference (field-content_reference e h.named) in
    let fixed = choice-fixed e h.named in
    let pattern = choice-pattern e h.named in
    let min_value = choice-min_value e h.named in
    let max_value = choice-max_value e h.named in
    let max_length = length_is e h in
    let binding : option_map binding_of (field (codes "binding") (element_tree e)) ≡ e.binding =
    part_is binding_of binding_tree binding_again _ e.binding (field-binding e h.named) in
    let constraints : map constraint_of (items_in (codes "constraint") (element_tree e)) ≡ e.constraints =
    ap (map constraint_of) (items_are constraint_tree _ e.constraints (field-constraint e h.named))
    ∙ map_again constraint_of constraint_tree constraint_again e.constraints in
    let slicing : option_map slicing_of (field (codes "slicing") (element_tree e)) ≡ e.slicing =
    part_is slicing_of slicing_tree slicing_again _ e.slicing (field-slicing e h.named) in
    element_is (fields_of (element_tree e)) e refl path slice_name min max types content_reference fixed pattern min_value max_value max_length binding
    constraints slicing

pub written_back : (e : Element) → IsTrue (is_writable e) → IsTrue (bounds_fit e) → element_of (element_tree e) ≡ Ok e
written_back e h fit =
    let it = fits e h in
    ap (λ fault. unless fault (fields_of (element_tree e))) (faultless e it fit) ∙ ap Ok (same e it)
