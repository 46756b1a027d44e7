-- The element of a sound tree is sound.
use Rattle.std.proofs.Common.{◌≡◌, List, [], ◌∷◌, map, Bool, true, false, Option, None, Some, Ok, IsTrue, refl, sym, if◌then◌else◌}
use Rattle.std.specs.Prelude.{codes}
use Rattle.std.specs.List.{list_all}
use Rattle.std.specs.Option.{option_map, option_map_or, option_and_then}
use Rattle.std.specs.Str.{bytes_eq, is_utf8}
use Rattle.std.proofs.lemmas.Bool.{and_parts}
use Rattle.std.proofs.lemmas.Str.{is_utf8-from_IsUtf8, IsUtf8-nil}
use Rattle.fhir_json.specs.Tree.{Text, Tree, null, boolean, number, string, array, object, Items, no_items, item, Members, no_members, member, list_of, names, Property}
use Rattle.fhir_json.specs.Fields.{value_named, field, as_text, as_items, text_in, text_at, items_in, texts_in, text_or_empty, is_choice, first_choice, choice_in}
use Rattle.fhir_json.specs.Sound.{IsSound, sound, items_sound, members_sound, differ}
use Rattle.fhir_elements.specs.Binding.{binding_of}
use Rattle.fhir_elements.specs.Constraint.{constraint_of}
use Rattle.fhir_elements.specs.Slicing.{discriminator_of, slicing_of}
use Rattle.fhir_elements.specs.TypeEntry.{type_entry_of}
use Rattle.fhir_elements.specs.Element.{Element, fields_of, element_of}
use Rattle.fhir_overlay.specs.Writable.{text_sound, type_entry_sound, constraint_sound, binding_sound, discriminator_sound, slicing_sound, choice_sound, is_sound}
use Rattle.fhir_overlay.proofs.Truths.{both, three, all_three}
use Rattle.fhir_overlay.proofs.Reading.{is_element}
use Rattle.fhir_overlay.proofs.SoundLaid.{sound_whole}

-- ---- fields

value_if : (b : Bool) (t : Tree) (rest : Option Tree) → IsTrue (sound t) → IsTrue (option_map_or sound rest true)
    → IsTrue (option_map_or sound (if b then Some t else rest) true)
value_if true t rest h i = h
value_if false t rest h i = i

value_sound : (name : Text) (ms : Members) → IsTrue (members_sound ms) → IsTrue (option_map_or sound (value_named name ms) true)
value_sound name no_members h = refl
value_sound name (member n t ms) h =
    let parts = three (is_utf8 n) (sound t) (members_sound ms) h in
    value_if (bytes_eq name n) t (value_named name ms) parts.1 (value_sound name ms parts.2)

field_sound : (name : Text) (t : Tree) → IsSound t → IsTrue (option_map_or sound (field name t) true)
field_sound name (object ms) h = value_sound name ms (and_parts (members_sound ms) (differ (names ms)) h).0
field_sound name null h = refl
field_sound name (boolean b) h = refl
field_sound name (number s) h = refl
field_sound name (string s) h = refl
field_sound name (array ts) h = refl

text_of_sound : (t : Tree) → IsTrue (sound t) → IsTrue (text_sound (as_text t))
text_of_sound (string s) h = h
text_of_sound null h = refl
text_of_sound (boolean b) h = refl
text_of_sound (number s) h = refl
text_of_sound (array ts) h = refl
text_of_sound (object ms) h = refl

text_if : (o : Option Tree) → IsTrue (option_map_or sound o true) → IsTrue (text_sound (option_and_then as_text o))
text_if None h = refl
text_if (Some t) h = text_of_sound t h

text : (name : Text) (t : Tree) → IsSound t → IsTrue (text_sound (text_in name t))
text name t h = text_if (field name t) (field_sound name t h)

empty_utf8 : IsTrue (is_utf8 [])
empty_utf8 = is_utf8-from_IsUtf8 [] IsUtf8-nil

or_empty : (o : Option Text) → IsTrue (text_sound o) → IsTrue (is_utf8 (option_map_or (λ s. s) o []))
or_empty None h = empty_utf8
or_empty (Some s) h = h

text_there : (name : Text) (t : Tree) → IsSound t → IsTrue (is_utf8 (text_at name t))
text_there name t h = or_empty (text_in name t) (text name t h)

-- ---- lists

list_sound : (ts : Items) → IsTrue (items_sound ts) → IsTrue (list_all sound (list_of ts))
list_sound no_items h = refl
list_sound (item t ts) h =
    let parts = and_parts (sound t) (items_sound ts) h in both (sound t) _ parts.0 (list_sound ts parts.1)

items_of_sound : (t : Tree) → IsTrue (sound t) → IsTrue (list_all sound (list_of (as_items t)))
items_of_sound (array ts) h = list_sound ts h
items_of_sound null h = refl
items_of_sound (boolean b) h = refl
items_of_sound (number s) h = refl
items_of_sound (string s) h = refl
items_of_sound (object ms) h = refl

items_if : (o : Option Tree) → IsTrue (option_map_or sound o true) → IsTrue (list_all sound (option_map_or (λ v. list_of (as_items v)) o []))
items_if None h = refl
items_if (Some t) h = items_of_sound t h

items : (name : Text) (t : Tree) → IsSound t → IsTrue (list_all sound (items_in name t))
items name t h = items_if (field name t) (field_sound name t h)

all_read : {A : Type 0} (read : Tree → A) (good : A → Bool) → ((t : Tree) → IsTrue (sound t) → IsTrue (good (read t))) → (ts : List Tree)
    → IsTrue (list_all sound ts) → IsTrue (list_all good (map read ts))
all_read read good one [] h = refl
all_read read good one (t ∷ ts) h =
    let parts = and_parts (sound t) (list_all sound ts) h in both (good (read t)) _ (one t parts.0) (all_read read good one ts parts.1)

texts : (name : Text) (t : Tree) → IsSound t → IsTrue (list_all is_utf8 (texts_in name t))
texts name t h = all_read text_or_empty is_utf8 (λ u i. or_empty (as_text u) (text_of_sound u i)) (items_in name t) (items name t h)

-- ---- parts

type_entry : (t : Tree) → IsTrue (sound t) → IsTrue (type_entry_sound (type_entry_of t))
type_entry t h = all_three _ _ _ (text_there (codes "code") t h) (texts (codes "profile") t h) (texts (codes "targetProfile") t h)

constraint : (t : Tree) → IsTrue (sound t) → IsTrue (constraint_sound (constraint_of t))
constraint t h = both _ _ (text_there (codes "key") t h) (text (codes "expression") t h)

binding : (t : Tree) → IsTrue (sound t) → IsTrue (binding_sound (binding_of t))
binding t h = text (codes "valueSet") t h

discriminator : (t : Tree) → IsTrue (sound t) → IsTrue (discriminator_sound (discriminator_of t))
discriminator t h = text (codes "path") t h

slicing : (t : Tree) → IsTrue (sound t) → IsTrue (slicing_sound (slicing_of t))
slicing t h = all_read discriminator_of discriminator_sound discriminator (items_in (codes "discriminator") t) (items (codes "discriminator") t h)

part : {A : Type 0} (read : Tree → A) (good : A → Bool) → ((t : Tree) → IsTrue (sound t) → IsTrue (good (read t))) → (o : Option Tree)
    → IsTrue (option_map_or sound o true) → IsTrue (option_map_or good (option_map read o) true)
part read good one None h = refl
part read good one (Some t) h = one t h

-- ---- choices

choice_if : (b : Bool) (n : Text) (t : Tree) (rest : Option Property) → IsTrue (is_utf8 n) → IsTrue (sound t) → IsTrue (choice_sound rest)
    → IsTrue (choice_sound (if b then Some (n, t) else rest))
choice_if true n t rest h i j = both (is_utf8 n) (sound t) h i
choice_if false n t rest h i j = j

first_sound : (stem : Text) (ms : Members) → IsTrue (members_sound ms) → IsTrue (choice_sound (first_choice stem ms))
first_sound stem no_members h = refl
first_sound stem (member n t ms) h =
    let parts = three (is_utf8 n) (sound t) (members_sound ms) h in
    choice_if (is_choice stem n) n t (first_choice stem ms) parts.0 parts.1 (first_sound stem ms parts.2)

choice : (stem : Text) (t : Tree) → IsSound t → IsTrue (choice_sound (choice_in stem t))
choice stem (object ms) h = first_sound stem ms (and_parts (members_sound ms) (differ (names ms)) h).0
choice stem null h = refl
choice stem (boolean b) h = refl
choice stem (number s) h = refl
choice stem (string s) h = refl
choice stem (array ts) h = refl

-- ---- the element

fields_sound : (t : Tree) → IsSound t → IsTrue (is_sound (fields_of t))
fields_sound t h = sound_whole (fields_of t) (record {
  id = text_there (codes "id") t h;
  path = text (codes "path") t h;
  slice_name = text (codes "sliceName") t h;
  content_reference = text (codes "contentReference") t h;
  fixed = choice (codes "fixed") t h;
  pattern = choice (codes "pattern") t h;
  min_value = choice (codes "minValue") t h;
  max_value = choice (codes "maxValue") t h;
  types = all_read type_entry_of type_entry_sound type_entry (items_in (codes "type") t) (items (codes "type") t h);
  constraints = all_read constraint_of constraint_sound constraint (items_in (codes "constraint") t) (items (codes "constraint") t h);
  binding = part binding_of binding_sound binding (field (codes "binding") t) (field_sound (codes "binding") t h);
  slicing = part slicing_of slicing_sound slicing (field (codes "slicing") t) (field_sound (codes "slicing") t h);
})

pub read_sound : (t : Tree) (e : Element) → IsSound t → element_of t ≡ Ok e → IsTrue (is_sound e)
read_sound t e h is = rw (sym (is_element t e is).same) (fields_sound t h)
