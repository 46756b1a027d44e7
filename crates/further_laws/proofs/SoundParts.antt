-- The value of each part of a resource is sound, where the tree of the resource is.
use Rattle.std.proofs.Common.{◌≡◌, ◌==◌, Bool, true, false, cond, ◌&&◌, List, [], ◌∷◌, map, length, nat_lt, subst, Option, None, Some}
use Rattle.std.specs.Prelude.{IfSome}
use Rattle.std.specs.Option.{option_map, option_and_then}
use Rattle.std.specs.List.{AllByRecursion, list_all, zip, find}
use Rattle.std.specs.Str.{bytes_eq, is_utf8}
use Rattle.std.proofs.lemmas.Bool.{and_parts}
use Rattle.fhir_json.specs.Tree.{Text, Tree, null, boolean, number, string, array, object, Items, no_items, Members, no_members, member, names}
use Rattle.fhir_json.specs.Tree.{item as one_more}
use Rattle.fhir_json.specs.Sound.{IsSound, sound, items_sound, members_sound, differ}
use Rattle.fhir_forms.specs.Forms.{Form, is_primitive, companion_name}
use Rattle.fhir_schema.specs.Schemas.{SchemaValue}
use Rattle.fhir_instance.specs.Items.{Item}
use Rattle.fhir_instance.specs.Typing.{Frame, Value, Held, Field, Halves, Types, joined, content_item, if_not_null, is_null, values_in, side_by_side, places_of, held_by, value_in, companion_in, place_items, form_items, forms_in, is_known, object_kids, fields_of, values_of, value_of, held_of}
use Rattle.fhir_contradictions.specs.Parts.{IsPartOf}
use Rattle.fhir_contradictions.specs.Contradictions.{IsSoundValue}
use Rattle.further_laws.proofs.Holding.{if_mapped, if_then, if_true, each_of_joined, each_of_map, each_then, each_of_any}
use Rattle.further_laws.proofs.SoundItems.{IsSoundItem, IsSoundKid, part_sound, value_sound, IsSoundOne, IsSoundIfAny, IsSoundHeld, IsSoundField, AreSoundHalves, resource_sound, content_sound}

-- ---- what stands in a property

-- a sound value is sound, if it isn't null
not_null_sound : (v : Value) → IsSoundOne v → IsSoundIfAny (if_not_null v)
not_null_sound v all = go (is_null v.json)
  where
    go : (b : Bool) → IsSoundIfAny (cond b None (Some v))
    go true = tt
    go false = all

-- the values in what a property holds are sound, if that is
values_sound : (r : Bool) (h : Held) → IsSoundHeld h → IfSome (values_in r h) (AllByRecursion IsSoundIfAny)
values_sound true h all =
    if_true (AllByRecursion IsSoundIfAny) (nat_lt 0 (length h.items)) (map if_not_null h.items)
    (each_of_map IsSoundOne IsSoundIfAny if_not_null not_null_sound h.items all.1)
values_sound false h all =
    if_mapped IsSoundOne (AllByRecursion IsSoundIfAny) (λ v. Some v ∷ []) (λ v whole. (whole, tt)) (if_not_null h.itself)
    (not_null_sound h.itself all.0)

-- sound values and companions are sound place by place
zip_sound : (vs cs : List (Option Value)) → AllByRecursion IsSoundIfAny vs → AllByRecursion IsSoundIfAny cs
    → AllByRecursion AreSoundHalves (zip vs cs)
zip_sound [] cs all more = tt
zip_sound (v ∷ vs) [] all more = tt
zip_sound (v ∷ vs) (c ∷ cs) all more = ((all.0, more.0), zip_sound vs cs all.1 more.1)

-- so is what stands at each place of a property and of its companion
places_sound : (r : Bool) (v c : Option Held) → IfSome v IsSoundHeld → IfSome c IsSoundHeld
    → IfSome (places_of r v c) (AllByRecursion AreSoundHalves)
places_sound r None None all more = tt
places_sound r (Some v) None all more =
    if_mapped (AllByRecursion IsSoundIfAny) (AllByRecursion AreSoundHalves) (map (λ p. (p, None)))
    (each_of_map IsSoundIfAny AreSoundHalves (λ p. (p, None)) (λ p whole. (whole, tt))) (values_in r v) (values_sound r v all)
places_sound r None (Some c) all more =
    if_mapped (AllByRecursion IsSoundIfAny) (AllByRecursion AreSoundHalves) (map (λ p. (None, p)))
    (each_of_map IsSoundIfAny AreSoundHalves (λ p. (None, p)) (λ p whole. (tt, whole))) (values_in r c) (values_sound r c more)
places_sound r (Some v) (Some c) all more =
    if_then (AllByRecursion IsSoundIfAny) (AllByRecursion AreSoundHalves) (λ vs. option_and_then (side_by_side vs) (values_in r c))
    (λ vs these. if_then (AllByRecursion IsSoundIfAny) (AllByRecursion AreSoundHalves) (side_by_side vs)
    (λ cs those. if_true (AllByRecursion AreSoundHalves) (length vs == length cs) (zip vs cs) (zip_sound vs cs these those))
    (values_in r c) (values_sound r c more))
    (values_in r v) (values_sound r v all)

-- what the property of a name holds is sound, if all properties are
held_sound : (name : Text) (fields : List Field) → AllByRecursion IsSoundField fields → IfSome (held_by name fields) IsSoundHeld
held_sound name [] each = tt
held_sound name (x ∷ fields) each = go (bytes_eq name x.name) (held_sound name fields each.1)
  where
    go : (b : Bool) → IfSome (held_by name fields) IsSoundHeld
        → IfSome (option_map (λ x. x.held) (cond b (Some x) (find (λ x. bytes_eq name x.name) fields))) IsSoundHeld
    go true more = each.0
    go false more = more

-- so is what the companion of a form's property holds
companion_sound : (f : Form) (fields : List Field) → AllByRecursion IsSoundField fields → IfSome (companion_in f fields) IsSoundHeld
companion_sound f fields each = go (is_primitive f.content)
  where
    go : (b : Bool) → IfSome (cond b (held_by (companion_name f) fields) None) IsSoundHeld
    go true = held_sound (companion_name f) fields each
    go false = tt

-- ---- the children of an object

module _ (s : SchemaValue) where
  -- the items at a place of a form's property are sound, if what stands there is
  place_sound : (f : Form) (h : Halves) → AreSoundHalves h → IfSome (place_items s f h) (AllByRecursion IsSoundKid)
  place_sound f h all =
      if_mapped IsSoundItem (AllByRecursion IsSoundKid) (λ x. (f.name, x) ∷ []) (λ x whole. (whole, tt))
      (content_item s f.content f.code h.0 h.1) (content_sound s f.content f.code h.0 h.1 all.0 all.1)

  -- the items of a form are sound, if the object's properties are
  form_sound : (fields : List Field) → AllByRecursion IsSoundField fields → (f : Form)
      → IfSome (form_items s fields f) (AllByRecursion IsSoundKid)
  form_sound fields each f =
      if_then (AllByRecursion AreSoundHalves) (AllByRecursion IsSoundKid) (λ hs. joined (map (place_items s f) hs))
      (λ hs all. each_of_joined IsSoundKid (place_items s f) hs
      (each_then AreSoundHalves (λ h. IfSome (place_items s f h) (AllByRecursion IsSoundKid)) (place_sound f) hs all))
      (places_of f.repeats (value_in f fields) (companion_in f fields))
      (places_sound f.repeats (value_in f fields) (companion_in f fields) (held_sound f.property fields each)
      (companion_sound f fields each))

  -- so are the children of the object
  object_sound : (fields : List Field) → AllByRecursion IsSoundField fields → (frame : Frame)
      → IfSome (object_kids s frame fields) (AllByRecursion IsSoundKid)
  object_sound fields each frame = go (nat_lt 0 (length fields) && list_all (λ x. is_known s frame x.name) fields)
    where
      go : (b : Bool) → IfSome (cond b (joined (map (form_items s fields) (forms_in s frame))) None) (AllByRecursion IsSoundKid)
      go true =
          each_of_joined IsSoundKid (form_items s fields) (forms_in s frame)
          (each_of_any (λ f. IfSome (form_items s fields f) (AllByRecursion IsSoundKid)) (form_sound fields each) (forms_in s frame))
      go false = tt

  -- ---- sound trees

  mutual
    -- a sound tree's value is sound, and so are those in it
    tree_sound : (t : Tree) → IsSound t → IsSoundHeld (held_of s t)
    tree_sound null whole = ((whole, λ frame. tt), tt)
    tree_sound (boolean b) whole = ((whole, λ frame. tt), tt)
    tree_sound (number n) whole = ((whole, λ frame. tt), tt)
    tree_sound (string n) whole = ((whole, λ frame. tt), tt)
    tree_sound (array ts) whole = ((whole, λ frame. tt), each_item_sound ts whole)
    tree_sound (object ms) whole =
        ((whole, object_sound (fields_of s ms) (each_field_sound ms (and_parts (members_sound ms) (differ (names ms)) whole).0)), tt)

    -- so are those of an array's items
    each_item_sound : (ts : Items) → items_sound ts ≡ true → AllByRecursion IsSoundOne (values_of s ts)
    each_item_sound no_items whole = tt
    each_item_sound (one_more t ts) whole =
        let parts = and_parts (sound t) (items_sound ts) whole in
        ((tree_sound t parts.0).0, each_item_sound ts parts.1)

    -- and those of an object's members
    each_field_sound : (ms : Members) → members_sound ms ≡ true → AllByRecursion IsSoundField (fields_of s ms)
    each_field_sound no_members whole = tt
    each_field_sound (member name t ms) whole =
        let parts = and_parts (is_utf8 name && sound t) (members_sound ms) whole in
        (tree_sound t (and_parts (is_utf8 name) (sound t) parts.0).1, each_field_sound ms parts.1)

-- ---- a resource

-- its item is one of which each part has a sound value, if its tree is sound
typed_sound : (s : SchemaValue) (t : Tree) (x : Item) → IsSound t → Types s t x → IsSoundItem x
typed_sound s t x whole typed =
    subst (λ (o : Option Item). IfSome o IsSoundItem) typed (resource_sound s (value_of s t) (tree_sound s t whole).0)

-- so the value of each part is sound
pub parts_sound : (s : SchemaValue) (t : Tree) (x y : Item) → IsSound t → Types s t x → IsPartOf x y → IsSoundValue y
parts_sound s t x y whole typed part = value_sound y (part_sound x y (typed_sound s t x whole typed) part)
