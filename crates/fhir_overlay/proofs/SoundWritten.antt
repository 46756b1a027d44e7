-- A sound element that can be written has a sound tree.
use Rattle.std.proofs.Common.{◌≡◌, List, [], ◌∷◌, map, Bool, true, false, Option, None, Some, IsTrue, refl, ap, ◌∙◌}
use Rattle.std.specs.Prelude.{codes, nat_lt}
use Rattle.std.specs.Fmt.{decimal, signed_decimal}
use Rattle.std.specs.List.{list_all}
use Rattle.std.specs.Option.{option_map, option_map_or, option_or}
use Rattle.std.specs.Str.{is_utf8}
use Rattle.fhir_json.specs.Tree.{Text, Tree, boolean, string, number, Property}
use Rattle.fhir_json.specs.Fields.{field, is_choice}
use Rattle.fhir_json.specs.Sound.{IsSound, sound}
use Rattle.fhir_elements.specs.declared.max.Max.{Max}
use Rattle.fhir_elements.specs.declared.binding.Strength.{Strength}
use Rattle.fhir_elements.specs.declared.binding.Strength.TheVariants as strengths
use Rattle.fhir_elements.specs.declared.constraint.Severity.{Severity}
use Rattle.fhir_elements.specs.declared.constraint.Severity.TheVariants as severities
use Rattle.fhir_elements.specs.declared.slicing.DiscriminatorType.{DiscriminatorType}
use Rattle.fhir_elements.specs.declared.slicing.DiscriminatorType.TheVariants as discriminators
use Rattle.fhir_elements.specs.declared.slicing.SlicingRules.{SlicingRules}
use Rattle.fhir_elements.specs.declared.slicing.SlicingRules.TheVariants as slicings
use Rattle.fhir_elements.specs.Binding.{Binding}
use Rattle.fhir_elements.specs.Constraint.{Constraint}
use Rattle.fhir_elements.specs.Slicing.{Discriminator, Slicing}
use Rattle.fhir_elements.specs.TypeEntry.{TypeEntry}
use Rattle.fhir_elements.specs.Element.{Element}
use Rattle.fhir_overlay.specs.Json.{member_if, text_member, array_member, filled_array, object_of, max_code, strength_code, severity_code, discriminator_code, rules_code, type_entry_tree, constraint_tree, binding_tree, discriminator_tree, slicing_tree, rule_members, element_tree}
use Rattle.fhir_overlay.specs.Writable.{is_count, is_max, is_integer, has_writable_numbers, is_writable, text_sound, type_entry_sound, constraint_sound, binding_sound, discriminator_sound, slicing_sound, choice_sound, is_sound}
use Rattle.fhir_overlay.proofs.Truths.{both, two, three}
use Rattle.fhir_overlay.proofs.Laying.{writable_parts}
use Rattle.fhir_overlay.proofs.Lookups.{taken, field-more, taken-named, taken-choice, apart}
use Rattle.fhir_overlay.proofs.Fields.{Named, named_parts}
use Rattle.fhir_overlay.proofs.SoundLaid.{Sound, sound_parts}
use Rattle.fhir_overlay.proofs.SoundNumbers.{count_sound, integer_sound, max_sound}
use Rattle.fhir_overlay.proofs.Objects.{unlike, unlike-named, unlike-choice, taken-unnamed, object_sound, plain_utf8, named_sound, text_value, written_value, array_value}

-- ---- codes

strength_utf8 : (s : Strength) → IsTrue (is_utf8 (strength_code s))
strength_utf8 strengths.Required = plain_utf8 (codes "required") refl
strength_utf8 strengths.Extensible = plain_utf8 (codes "extensible") refl
strength_utf8 strengths.Preferred = plain_utf8 (codes "preferred") refl
strength_utf8 strengths.Example = plain_utf8 (codes "example") refl

severity_utf8 : (s : Severity) → IsTrue (is_utf8 (severity_code s))
severity_utf8 severities.Error = plain_utf8 (codes "error") refl
severity_utf8 severities.Warning = plain_utf8 (codes "warning") refl

discriminator_utf8 : (d : DiscriminatorType) → IsTrue (is_utf8 (discriminator_code d))
discriminator_utf8 discriminators.Value = plain_utf8 (codes "value") refl
discriminator_utf8 discriminators.Exists = plain_utf8 (codes "exists") refl
discriminator_utf8 discriminators.Pattern = plain_utf8 (codes "pattern") refl
discriminator_utf8 discriminators.TypeCode = plain_utf8 (codes "type") refl
discriminator_utf8 discriminators.Profile = plain_utf8 (codes "profile") refl

rules_utf8 : (r : SlicingRules) → IsTrue (is_utf8 (rules_code r))
rules_utf8 slicings.Closed = plain_utf8 (codes "closed") refl
rules_utf8 slicings.Open = plain_utf8 (codes "open") refl
rules_utf8 slicings.OpenAtEnd = plain_utf8 (codes "openAtEnd") refl

code_value : {A : Type 0} (write : A → Text) → ((x : A) → IsTrue (is_utf8 (write x))) → (o : Option A)
    → IsTrue (option_map_or sound (option_map string (option_map write o)) true)
code_value write good None = refl
code_value write good (Some x) = good x

flag_value : (o : Option Bool) → IsTrue (option_map_or sound (option_map boolean o) true)
flag_value None = refl
flag_value (Some b) = refl

max_value : (o : Option Max) → IsTrue (option_map_or is_max o true) → IsTrue (option_map_or sound (option_map string (option_map max_code o)) true)
max_value None h = refl
max_value (Some m) h = max_sound m h

-- ---- parts

text_written : (s : Text) → IsTrue (is_utf8 s) → IsTrue (sound (string s))
text_written s h = h

pub type_entry : (x : TypeEntry) → IsTrue (type_entry_sound x) → IsTrue (sound (type_entry_tree x))
type_entry x h =
    let parts = three (is_utf8 x.code) (list_all is_utf8 x.profiles) (list_all is_utf8 x.targets) h in
    let profiles = array_member (codes "profile") (map string x.profiles) in
    let targets = array_member (codes "targetProfile") (map string x.targets) in
    let code = text_member (codes "code") (Some x.code) in
    object_sound (code ∷ profiles ∷ targets ∷ [])
    (both (choice_sound code) _ (named_sound (codes "code") (Some (string x.code)) refl parts.0)
    (both (choice_sound profiles) _ (named_sound (codes "profile") _ refl (array_value string is_utf8 text_written x.profiles parts.1))
    (both (choice_sound targets) true (named_sound (codes "targetProfile") _ refl (array_value string is_utf8 text_written x.targets parts.2)) refl)))
    (unlike-named (codes "code") (Some (string x.code)) (profiles ∷ targets ∷ []) (simp (field-more, taken-named))
    (unlike-named (codes "profile") _ (targets ∷ []) (simp (field-more, taken-named)) (unlike-named (codes "targetProfile") _ [] refl refl)))

pub constraint : (x : Constraint) → IsTrue (constraint_sound x) → IsTrue (sound (constraint_tree x))
constraint x h =
    let parts = two (is_utf8 x.key) (text_sound x.expression) h in
    let key = text_member (codes "key") (Some x.key) in
    let severity = text_member (codes "severity") (option_map severity_code x.severity) in
    let expression = text_member (codes "expression") x.expression in
    object_sound (key ∷ severity ∷ expression ∷ [])
    (both (choice_sound key) _ (named_sound (codes "key") (Some (string x.key)) refl parts.0)
    (both (choice_sound severity) _ (named_sound (codes "severity") _ refl (code_value severity_code severity_utf8 x.severity))
    (both (choice_sound expression) true (named_sound (codes "expression") _ refl (text_value x.expression parts.1)) refl)))
    (unlike-named (codes "key") (Some (string x.key)) (severity ∷ expression ∷ []) (simp (field-more, taken-named))
    (unlike-named (codes "severity") _ (expression ∷ []) (simp (field-more, taken-named)) (unlike-named (codes "expression") _ [] refl refl)))

pub binding : (x : Binding) → IsTrue (binding_sound x) → IsTrue (sound (binding_tree x))
binding x h =
    let strength = text_member (codes "strength") (option_map strength_code x.strength) in
    let value_set = text_member (codes "valueSet") x.value_set in
    object_sound (strength ∷ value_set ∷ [])
    (both (choice_sound strength) _ (named_sound (codes "strength") _ refl (code_value strength_code strength_utf8 x.strength))
    (both (choice_sound value_set) true (named_sound (codes "valueSet") _ refl (text_value x.value_set h)) refl))
    (unlike-named (codes "strength") _ (value_set ∷ []) (simp (field-more, taken-named)) (unlike-named (codes "valueSet") _ [] refl refl))

discriminator : (x : Discriminator) → IsTrue (discriminator_sound x) → IsTrue (sound (discriminator_tree x))
discriminator x h =
    let by = text_member (codes "type") (option_map discriminator_code x.by) in
    let path = text_member (codes "path") x.path in
    object_sound (by ∷ path ∷ [])
    (both (choice_sound by) _ (named_sound (codes "type") _ refl (code_value discriminator_code discriminator_utf8 x.by))
    (both (choice_sound path) true (named_sound (codes "path") _ refl (text_value x.path h)) refl))
    (unlike-named (codes "type") _ (path ∷ []) (simp (field-more, taken-named)) (unlike-named (codes "path") _ [] refl refl))

pub slicing : (x : Slicing) → IsTrue (slicing_sound x) → IsTrue (sound (slicing_tree x))
slicing x h =
    let by = array_member (codes "discriminator") (map discriminator_tree x.discriminators) in
    let ordered = member_if (codes "ordered") (option_map boolean x.ordered) in
    let rules = text_member (codes "rules") (option_map rules_code x.rules) in
    object_sound (by ∷ ordered ∷ rules ∷ [])
    (both (choice_sound by) _ (named_sound (codes "discriminator") _ refl (array_value discriminator_tree discriminator_sound discriminator x.discriminators h))
    (both (choice_sound ordered) _ (named_sound (codes "ordered") _ refl (flag_value x.ordered))
    (both (choice_sound rules) true (named_sound (codes "rules") _ refl (code_value rules_code rules_utf8 x.rules)) refl)))
    (unlike-named (codes "discriminator") _ (ordered ∷ rules ∷ []) (simp (field-more, taken-named))
    (unlike-named (codes "ordered") _ (rules ∷ []) (simp (field-more, taken-named)) (unlike-named (codes "rules") _ [] refl refl)))

-- ---- an element's members, from one of them on

abbrev from_length : Element → List (Option Property)
from_length e = member_if (codes "maxLength") (option_map (λ n. number (signed_decimal n)) e.max_length) ∷ rule_members e

abbrev from_max_value : Element → List (Option Property)
from_max_value e = e.max_value ∷ from_length e

abbrev from_min_value : Element → List (Option Property)
from_min_value e = e.min_value ∷ from_max_value e

abbrev from_pattern : Element → List (Option Property)
from_pattern e = e.pattern ∷ from_min_value e

abbrev from_fixed : Element → List (Option Property)
from_fixed e = e.fixed ∷ from_pattern e

abbrev from_types : Element → List (Option Property)
from_types e = member_if (codes "type") (filled_array (map type_entry_tree e.types)) ∷ from_fixed e

abbrev from_reference : Element → List (Option Property)
from_reference e = member_if (codes "contentReference") (option_map string e.content_reference) ∷ from_types e

abbrev from_max : Element → List (Option Property)
from_max e = member_if (codes "max") (option_map string (option_map max_code e.max)) ∷ from_reference e

abbrev from_min : Element → List (Option Property)
from_min e = member_if (codes "min") (option_map (λ n. number (decimal n)) e.min) ∷ from_max e

abbrev from_slicing : Element → List (Option Property)
from_slicing e = member_if (codes "slicing") (option_map slicing_tree e.slicing) ∷ from_min e

abbrev from_slice_name : Element → List (Option Property)
from_slice_name e = member_if (codes "sliceName") (option_map string e.slice_name) ∷ from_slicing e

abbrev from_path : Element → List (Option Property)
from_path e = member_if (codes "path") (option_map string e.path) ∷ from_slice_name e

abbrev from_id : Element → List (Option Property)
from_id e = member_if (codes "id") (Some (string e.id)) ∷ from_path e

-- ---- their names differ

rules_unlike : (e : Element) → IsTrue (unlike (rule_members e))
rules_unlike e =
    unlike-named (codes "constraint") (filled_array (map constraint_tree e.constraints)) (member_if (codes "binding") (option_map binding_tree e.binding) ∷ [])
    (simp (field-more, taken-named)) (unlike-named (codes "binding") (option_map binding_tree e.binding) [] refl refl)

length_unlike : (e : Element) → IsTrue (unlike (from_length e))
length_unlike e =
    unlike-named (codes "maxLength") (option_map (λ n. number (signed_decimal n)) e.max_length) (rule_members e) (simp (field-more, taken-named))
    (rules_unlike e)

passed : (n : Text) (m : Option Property) (ms : List (Option Property)) → taken n m ≡ None → field n (object_of ms) ≡ None
    → field n (object_of (m ∷ ms)) ≡ None
passed n m ms here later = field-more n m ms ∙ ap (λ o. option_or o (field n (object_of ms))) here ∙ later

-- a choice of a stem has none of the last names
length_passed : (e : Element) (stem n : Text) → is_choice stem (codes "maxLength") ≡ false → is_choice stem (codes "constraint") ≡ false
    → is_choice stem (codes "binding") ≡ false → is_choice stem n ≡ true → field n (object_of (from_length e)) ≡ None
length_passed e stem n first second third is =
    let binding = member_if (codes "binding") (option_map binding_tree e.binding) in
    passed n _ (rule_members e) (taken-unnamed stem n (codes "maxLength") (option_map (λ n. number (signed_decimal n)) e.max_length) first is)
    (passed n _ (binding ∷ []) (taken-unnamed stem n (codes "constraint") (filled_array (map constraint_tree e.constraints)) second is)
    (passed n binding [] (taken-unnamed stem n (codes "binding") (option_map binding_tree e.binding) third is) refl))

max_value_unlike : (e : Element) → Named e → IsTrue (unlike (from_max_value e))
max_value_unlike e named =
    unlike-choice (codes "maxValue") e.max_value (from_length e) named.max_value
    (λ n is. length_passed e (codes "maxValue") n refl refl refl is) (length_unlike e)

min_value_unlike : (e : Element) → Named e → IsTrue (unlike (from_min_value e))
min_value_unlike e named =
    unlike-choice (codes "minValue") e.min_value (from_max_value e) named.min_value
    (λ n is.
    passed n e.max_value (from_length e)
    (taken-choice (codes "maxValue") n e.max_value named.max_value (apart (codes "minValue") (codes "maxValue") n refl is))
    (length_passed e (codes "minValue") n refl refl refl is))
    (max_value_unlike e named)

pattern_unlike : (e : Element) → Named e → IsTrue (unlike (from_pattern e))
pattern_unlike e named =
    unlike-choice (codes "pattern") e.pattern (from_min_value e) named.pattern
    (λ n is.
    passed n e.min_value (from_max_value e)
    (taken-choice (codes "minValue") n e.min_value named.min_value (apart (codes "pattern") (codes "minValue") n refl is))
    (passed n e.max_value (from_length e)
    (taken-choice (codes "maxValue") n e.max_value named.max_value (apart (codes "pattern") (codes "maxValue") n refl is))
    (length_passed e (codes "pattern") n refl refl refl is)))
    (min_value_unlike e named)

fixed_unlike : (e : Element) → Named e → IsTrue (unlike (from_fixed e))
fixed_unlike e named =
    unlike-choice (codes "fixed") e.fixed (from_pattern e) named.fixed
    (λ n is.
    passed n e.pattern (from_min_value e)
    (taken-choice (codes "pattern") n e.pattern named.pattern (apart (codes "fixed") (codes "pattern") n refl is))
    (passed n e.min_value (from_max_value e)
    (taken-choice (codes "minValue") n e.min_value named.min_value (apart (codes "fixed") (codes "minValue") n refl is))
    (passed n e.max_value (from_length e)
    (taken-choice (codes "maxValue") n e.max_value named.max_value (apart (codes "fixed") (codes "maxValue") n refl is))
    (length_passed e (codes "fixed") n refl refl refl is))))
    (pattern_unlike e named)

-- none of the choices has a name that is no choice of their stems
record Aside (name : Text) (e : Element) : Type 0 where
  fixed : taken name e.fixed ≡ None
  pattern : taken name e.pattern ≡ None
  min_value : taken name e.min_value ≡ None
  max_value : taken name e.max_value ≡ None

aside : (name : Text) (e : Element) → Named e → is_choice (codes "fixed") name ≡ false → is_choice (codes "pattern") name ≡ false
    → is_choice (codes "minValue") name ≡ false → is_choice (codes "maxValue") name ≡ false → Aside name e
aside name e named first second third fourth = record {
  fixed = taken-choice (codes "fixed") name e.fixed named.fixed first;
  pattern = taken-choice (codes "pattern") name e.pattern named.pattern second;
  min_value = taken-choice (codes "minValue") name e.min_value named.min_value third;
  max_value = taken-choice (codes "maxValue") name e.max_value named.max_value fourth;
}

types_unlike : (e : Element) → Named e → IsTrue (unlike (from_types e))
types_unlike e named =
    let it = aside (codes "type") e named refl refl refl refl in
    unlike-named (codes "type") (filled_array (map type_entry_tree e.types)) (from_fixed e)
    (simp (field-more, taken-named, it.fixed, it.pattern, it.min_value, it.max_value)) (fixed_unlike e named)

reference_unlike : (e : Element) → Named e → IsTrue (unlike (from_reference e))
reference_unlike e named =
    let it = aside (codes "contentReference") e named refl refl refl refl in
    unlike-named (codes "contentReference") (option_map string e.content_reference) (from_types e)
    (simp (field-more, taken-named, it.fixed, it.pattern, it.min_value, it.max_value)) (types_unlike e named)

max_unlike : (e : Element) → Named e → IsTrue (unlike (from_max e))
max_unlike e named =
    let it = aside (codes "max") e named refl refl refl refl in
    unlike-named (codes "max") (option_map string (option_map max_code e.max)) (from_reference e)
    (simp (field-more, taken-named, it.fixed, it.pattern, it.min_value, it.max_value)) (reference_unlike e named)

min_unlike : (e : Element) → Named e → IsTrue (unlike (from_min e))
min_unlike e named =
    let it = aside (codes "min") e named refl refl refl refl in
    unlike-named (codes "min") (option_map (λ n. number (decimal n)) e.min) (from_max e)
    (simp (field-more, taken-named, it.fixed, it.pattern, it.min_value, it.max_value)) (max_unlike e named)

slicing_unlike : (e : Element) → Named e → IsTrue (unlike (from_slicing e))
slicing_unlike e named =
    let it = aside (codes "slicing") e named refl refl refl refl in
    unlike-named (codes "slicing") (option_map slicing_tree e.slicing) (from_min e)
    (simp (field-more, taken-named, it.fixed, it.pattern, it.min_value, it.max_value)) (min_unlike e named)

slice_name_unlike : (e : Element) → Named e → IsTrue (unlike (from_slice_name e))
slice_name_unlike e named =
    let it = aside (codes "sliceName") e named refl refl refl refl in
    unlike-named (codes "sliceName") (option_map string e.slice_name) (from_slicing e)
    (simp (field-more, taken-named, it.fixed, it.pattern, it.min_value, it.max_value)) (slicing_unlike e named)

path_unlike : (e : Element) → Named e → IsTrue (unlike (from_path e))
path_unlike e named =
    let it = aside (codes "path") e named refl refl refl refl in
    unlike-named (codes "path") (option_map string e.path) (from_slice_name e)
    (simp (field-more, taken-named, it.fixed, it.pattern, it.min_value, it.max_value)) (slice_name_unlike e named)

id_unlike : (e : Element) → Named e → IsTrue (unlike (from_id e))
id_unlike e named =
    let it = aside (codes "id") e named refl refl refl refl in
    unlike-named (codes "id") (Some (string e.id)) (from_path e)
    (simp (field-more, taken-named, it.fixed, it.pattern, it.min_value, it.max_value)) (path_unlike e named)

-- ---- their values are sound

more : (m : Option Property) (ms : List (Option Property)) → IsTrue (choice_sound m) → IsTrue (list_all choice_sound ms)
    → IsTrue (list_all choice_sound (m ∷ ms))
more m ms h i = both (choice_sound m) (list_all choice_sound ms) h i

named_more : (name : Text) (value : Option Tree) (ms : List (Option Property)) → IsTrue (list_all (λ b. nat_lt b 128) name)
    → IsTrue (option_map_or sound value true) → IsTrue (list_all choice_sound ms) → IsTrue (list_all choice_sound (member_if name value ∷ ms))
named_more name value ms plain h i = more (member_if name value) ms (named_sound name value plain h) i

rules_sound : (e : Element) → Sound e → IsTrue (list_all choice_sound (rule_members e))
rules_sound e s =
    let binding-value = option_map binding_tree e.binding in
    named_more (codes "constraint") (filled_array (map constraint_tree e.constraints)) (member_if (codes "binding") binding-value ∷ []) refl
    (array_value constraint_tree constraint_sound constraint e.constraints s.constraints)
    (named_more (codes "binding") binding-value [] refl (written_value binding_tree binding_sound binding e.binding s.binding) refl)

values_sound : (e : Element) → Sound e → IsTrue (option_map_or is_integer e.max_length true) → IsTrue (list_all choice_sound (from_fixed e))
values_sound e s length =
    more e.fixed (from_pattern e) s.fixed
    (more e.pattern (from_min_value e) s.pattern
    (more e.min_value (from_max_value e) s.min_value
    (more e.max_value (from_length e) s.max_value
    (named_more (codes "maxLength") (option_map (λ n. number (signed_decimal n)) e.max_length) (rule_members e) refl
    (written_value (λ n. number (signed_decimal n)) is_integer integer_sound e.max_length length) (rules_sound e s)))))

content_sound : (e : Element) → Sound e → IsTrue (has_writable_numbers e) → IsTrue (list_all choice_sound (from_slicing e))
content_sound e s h =
    let numbers = three (option_map_or is_count e.min true) (option_map_or is_max e.max true) (option_map_or is_integer e.max_length true) h in
    named_more (codes "slicing") (option_map slicing_tree e.slicing) (from_min e) refl (written_value slicing_tree slicing_sound slicing e.slicing s.slicing)
    (named_more (codes "min") (option_map (λ n. number (decimal n)) e.min) (from_max e) refl
    (written_value (λ n. number (decimal n)) is_count count_sound e.min numbers.0)
    (named_more (codes "max") (option_map string (option_map max_code e.max)) (from_reference e) refl (max_value e.max numbers.1)
    (named_more (codes "contentReference") (option_map string e.content_reference) (from_types e) refl (text_value e.content_reference s.content_reference)
    (named_more (codes "type") (filled_array (map type_entry_tree e.types)) (from_fixed e) refl
    (array_value type_entry_tree type_entry_sound type_entry e.types s.types) (values_sound e s numbers.2)))))

members_sound : (e : Element) → Sound e → IsTrue (has_writable_numbers e) → IsTrue (list_all choice_sound (from_id e))
members_sound e s h =
    named_more (codes "id") (Some (string e.id)) (from_path e) refl s.id
    (named_more (codes "path") (option_map string e.path) (from_slice_name e) refl (text_value e.path s.path)
    (named_more (codes "sliceName") (option_map string e.slice_name) (from_slicing e) refl (text_value e.slice_name s.slice_name) (content_sound e s h)))

pub written_sound : (e : Element) → IsTrue (is_sound e) → IsTrue (is_writable e) → IsSound (element_tree e)
written_sound e h i =
    let s = sound_parts e h in
    let parts = writable_parts e i in
    object_sound (from_id e) (members_sound e s parts.1) (id_unlike e (named_parts e parts.3))
