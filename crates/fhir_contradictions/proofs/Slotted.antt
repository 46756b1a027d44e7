-- The forms of a node of a type's definition are those of its slots.
use Rattle.std.proofs.Common.{◌≡◌, ℕ, Bool, true, false, cond, not, List, [], ◌∷◌, map, get_or, Option, None, Some, refl, sym, ap, ◌∙◌, subst, inl, inr, IsTrue}
use Rattle.std.specs.Option.{option_map, option_map_or}
use Rattle.std.specs.List.{Contains, find, slice_get}
use Rattle.std.specs.Str.{bytes_eq}
use Rattle.std.proofs.lemmas.Bool.{and_parts, not-true, both_ways}
use Rattle.std.proofs.lemmas.Option.{get_or_from_slice_get}
use Rattle.std.proofs.lemmas.Slice.Eq.{bytes_eq-Decides}
use Rattle.fhir_json.specs.Tree.{Text, Tree}
use Rattle.fhir_json.specs.Sound.{differ, is_among}
use Rattle.fhir_elements.specs.TypeEntry.{TypeEntry}
use Rattle.fhir_elements.specs.Element.{Element}
use Rattle.fhir_definition.specs.Definition.{Definition}
use Rattle.fhir_nodes.specs.declared.node.NodeRef.{NodeRef}
use Rattle.fhir_nodes.specs.Slots.{Slot, slots_of}
use Rattle.fhir_nodes.specs.Holders.{typing_entries}
use Rattle.fhir_forms.specs.Forms.{Form, content_of, slot_node, form_of, forms_with, slot_forms, forms_under, are_apart, if_apart, forms_of}
use Rattle.fhir_schema.specs.Schemas.{SchemaValue, element_at, slots, slot_named, entry_of, forms}
use Rattle.fhir_instance.specs.Items.{Item, kids_of}
use Rattle.fhir_instance.specs.Typing.{content_item, value_of}
use Rattle.fhir_contradictions.specs.Typing.{IsTypedBy, children_of, type_codes, codes_under}
use Rattle.fhir_contradictions.specs.Contradictions.{names_differ}
use Rattle.fhir_contradictions.proofs.Listed.{contains_none, contains_cases, in_map, any_from, Given, from_flat_map, Mapped, from_map, at_map, past_map}
use Rattle.fhir_contradictions.proofs.Formed.{IsOfForm, child_of_form}

-- each definition stands at its place
abbrev pub ArePlaced : SchemaValue → Type 0
ArePlaced s = (place : ℕ) (d : Definition) → slice_get s.definitions place ≡ Some d → d.place ≡ place

-- ---- a form is of a slot, and of one of the types of that slot's element

-- which slot that is
pub record IsOfSlot (s : SchemaValue) (n : NodeRef) (f : Form) : Type 0 where
  pub slot : Slot
  pub among : Contains (slots s n) slot
  pub name : f.name ≡ slot.name
  pub code : Contains (type_codes s (entry_of n slot)) f.code
  pub content : f.content ≡ content_of s.definitions (entry_of n slot) f.code

module _ (s : SchemaValue) (n : NodeRef) (f : Form) where
  -- a form of the slot's element, which is there
  of_entry : (d : Definition) (slot : Slot) (e : Element) → slice_get s.definitions n.definition ≡ Some d → d.place ≡ n.definition
      → slice_get d.elements slot.entry ≡ Some e → Contains (slots s n) slot → Contains (forms_with s.definitions d slot e) f → IsOfSlot s n f
  of_entry d slot e there placed at among has =
      made (from_map (λ (entry : TypeEntry). form_of s.definitions d slot e entry.code) (typing_entries s.definitions (slot_node s.definitions d slot) e) f has)
    where
      node : slot_node s.definitions d slot ≡ entry_of n slot
      node = ap (λ (k : ℕ). record { definition = k; element = slot.entry }) placed

      element : element_at s (entry_of n slot) ≡ Some e
      element = ap (λ (o : Option Definition). slice_get (option_map_or (λ (d : Definition). d.elements) o []) slot.entry) there ∙ at

      codes_are : type_codes s (entry_of n slot) ≡ map (λ (entry : TypeEntry). entry.code) (typing_entries s.definitions (entry_of n slot) e)
      codes_are = ap (λ (o : Option Element). option_map_or (λ e. map (λ (entry : TypeEntry). entry.code) (typing_entries s.definitions (entry_of n slot) e)) o []) element

      made : Mapped (λ (entry : TypeEntry). form_of s.definitions d slot e entry.code) (typing_entries s.definitions (slot_node s.definitions d slot) e) f
          → IsOfSlot s n f
      made m =
          let code : m.from.code ≡ f.code = ap (λ (g : Form). g.code) m.is in
          let entry : Contains (typing_entries s.definitions (entry_of n slot) e) m.from =
          subst (λ (k : NodeRef). Contains (typing_entries s.definitions k e) m.from) node m.among in
          let listed : Contains (map (λ (entry : TypeEntry). entry.code) (typing_entries s.definitions (entry_of n slot) e)) m.from.code =
          in_map (λ (entry : TypeEntry). entry.code) (typing_entries s.definitions (entry_of n slot) e) m.from entry in
          record {
            slot = slot;
            among = among;
            name = sym (ap (λ (g : Form). g.name) m.is);
            code = subst (λ (l : List Text). Contains l f.code) (sym codes_are)
                (subst (λ (c : Text). Contains (map (λ (entry : TypeEntry). entry.code) (typing_entries s.definitions (entry_of n slot) e)) c) code listed);
            content = sym (ap (λ (g : Form). g.content) m.is)
                ∙ ap (λ (k : NodeRef). content_of s.definitions k m.from.code) node
                ∙ ap (λ (c : Text). content_of s.definitions (entry_of n slot) c) code;
          }

  -- a form of a slot of the definition
  of_slot : (d : Definition) (slot : Slot) → slice_get s.definitions n.definition ≡ Some d → d.place ≡ n.definition
      → Contains (slots s n) slot → Contains (slot_forms s.definitions d slot) f → IsOfSlot s n f
  of_slot d slot there placed among = go (slice_get d.elements slot.entry) refl
    where
      go : (o : Option Element) → slice_get d.elements slot.entry ≡ o → Contains (option_map_or (forms_with s.definitions d slot) o []) f → IsOfSlot s n f
      go None at has = absurd (contains_none f has)
      go (Some e) at has = of_entry d slot e there placed at among has

  -- a form of the slots of one of its elements
  of_slots : (d : Definition) (ss : List Slot) → slice_get s.definitions n.definition ≡ Some d → d.place ≡ n.definition → slots s n ≡ ss
      → Contains (if_apart (forms_under s.definitions d ss)) f → IsOfSlot s n f
  of_slots d ss there placed are = go (are_apart (forms_under s.definitions d ss))
    where
      made : Given (slot_forms s.definitions d) ss f → IsOfSlot s n f
      made g = of_slot d g.from there placed (subst (λ (l : List Slot). Contains l g.from) (sym are) g.among) g.gives

      go : (b : Bool) → Contains (cond b (forms_under s.definitions d ss) []) f → IsOfSlot s n f
      go true has = made (from_flat_map (slot_forms s.definitions d) ss f has)
      go false has = absurd (contains_none f has)

  -- a form of the definition at the place of the node
  of_definition : (d : Definition) → slice_get s.definitions n.definition ≡ Some d → d.place ≡ n.definition
      → Contains (get_or (forms_of s.definitions d) n.element []) f → IsOfSlot s n f
  of_definition d there placed = by_type d.is_type
    where
      all : List (List Slot)
      all = slots_of s.definitions d

      formed : List Slot → List Form
      formed ss = if_apart (forms_under s.definitions d ss)

      are : (ss : List Slot) → slice_get all n.element ≡ Some ss → slots s n ≡ ss
      are ss is =
          ap (λ (l : List (List Slot)). get_or l n.element []) (at_map (slots_of s.definitions) s.definitions n.definition d [] there)
          ∙ get_or_from_slice_get all n.element ss [] is

      at : (o : Option (List Slot)) → slice_get all n.element ≡ o → Contains (get_or (map formed all) n.element []) f → IsOfSlot s n f
      at None is has = absurd (contains_none f (subst (λ (l : List Form). Contains l f) (past_map formed all n.element [] is) has))
      at (Some ss) is has =
          of_slots d ss there placed (are ss is) (subst (λ (l : List Form). Contains l f) (at_map formed all n.element ss [] is) has)

      by_type : (b : Bool) → Contains (get_or (cond b (map formed all) []) n.element []) f → IsOfSlot s n f
      by_type true has = at (slice_get all n.element) refl has
      by_type false has = absurd (contains_none f has)

  -- each form of a node is of one of its slots
  pub form_of_slot : ArePlaced s → Contains (forms s n) f → IsOfSlot s n f
  form_of_slot placed has = go (slice_get s.definitions n.definition) refl
    where
      go : (o : Option Definition) → slice_get s.definitions n.definition ≡ o → IsOfSlot s n f
      go None is =
          absurd (contains_none f (subst (λ (l : List (List Form)). Contains (get_or l n.element []) f) (past_map (forms_of s.definitions) s.definitions n.definition [] is) has))
      go (Some d) is =
          of_definition d is (placed n.definition d is)
          (subst (λ (l : List (List Form)). Contains (get_or l n.element []) f) (at_map (forms_of s.definitions) s.definitions n.definition d [] is) has)

-- ---- a slot is found by its name, where no two have one

-- the slot that is found under the name of a slot is that one
pub slot_is_named : (some : List Slot) (slot : Slot) → IsTrue (names_differ some) → Contains some slot
    → find (λ (x : Slot). bytes_eq slot.name x.name) some ≡ Some slot
slot_is_named [] slot apart has = absurd (contains_none slot has)
slot_is_named (x ∷ xs) slot apart has =
    let parts = and_parts (not (is_among x.name (map (λ (y : Slot). y.name) xs))) (differ (map (λ (y : Slot). y.name) xs)) apart in
    elim (contains_cases x xs slot has) [
      | inl here ↦ first here
      | inr there ↦ later (bytes_eq slot.name x.name) refl parts.0 there (slot_is_named xs slot parts.1 there)
    ]
  where
    first : x ≡ slot → find (λ (y : Slot). bytes_eq slot.name y.name) (x ∷ xs) ≡ Some slot
    first here =
        rw ((bytes_eq-Decides slot.name x.name).1 (ap (λ (y : Slot). y.name) (sym here))) (ap (λ (y : Slot). Some y) here)

    later : (b : Bool) → bytes_eq slot.name x.name ≡ b → IsTrue (not (is_among x.name (map (λ (y : Slot). y.name) xs))) → Contains xs slot
        → find (λ (y : Slot). bytes_eq slot.name y.name) xs ≡ Some slot
        → cond b (Some x) (find (λ (y : Slot). bytes_eq slot.name y.name) xs) ≡ Some slot
    later true e other there more =
        let same : slot.name ≡ x.name = (bytes_eq-Decides slot.name x.name).0 e in
        absurd (both_ways (is_among x.name (map (λ (y : Slot). y.name) xs)) (not-true (is_among x.name (map (λ (y : Slot). y.name) xs)) other)
        (any_from (bytes_eq x.name) (map (λ (y : Slot). y.name) xs) slot.name (in_map (λ (y : Slot). y.name) xs slot there)
        ((bytes_eq-Decides x.name slot.name).1 (sym same))))
    later false e other there more = more

-- ---- a child is the item of a type of the element of its name's slot

-- which slot and which type those are, and the value and the companion that the item was typed from
pub record IsOfType (s : SchemaValue) (by : NodeRef) (name : Text) (y : Item) : Type 0 where
  pub slot : Slot
  pub named : slot_named s by name ≡ Some slot
  pub code : Text
  pub among : Contains (type_codes s (entry_of by slot)) code
  pub value : Option Tree
  pub companion : Option Tree
  pub is : content_item s (content_of s.definitions (entry_of by slot) code) code (option_map (value_of s) value) (option_map (value_of s) companion) ≡ Some y

-- each child is one
pub child_of_type : (s : SchemaValue) (by : NodeRef) (x : Item) (name : Text) (y : Item) → ArePlaced s → IsTrue (names_differ (slots s by)) → IsTypedBy s by x
    → Contains (children_of (kids_of x)) (name, y) → IsOfType s by name y
child_of_type s by x name y placed apart typed has = made (child_of_form s by x (name, y) typed has)
  where
    of : (g : IsOfForm s (forms s by) (name, y)) → IsOfSlot s by g.form → IsOfType s by name y
    of g k = record {
      slot = k.slot;
      named = subst (λ (t : Text). slot_named s by t ≡ Some k.slot) (sym k.name ∙ g.name) (slot_is_named (slots s by) k.slot apart k.among);
      code = g.form.code;
      among = k.code;
      value = g.value;
      companion = g.companion;
      is = subst (λ c. content_item s c g.form.code (option_map (value_of s) g.value) (option_map (value_of s) g.companion) ≡ Some y) k.content g.is;
    }

    made : IsOfForm s (forms s by) (name, y) → IsOfType s by name y
    made g = of g (form_of_slot s by g.form placed g.among)

-- a child's code is one of those that children of its name can have
pub code_under : (s : SchemaValue) (by : NodeRef) (name : Text) (y : Item) → (g : IsOfType s by name y) → Contains (codes_under s by name) g.code
code_under s by name y g =
    subst (λ (o : Option Slot). Contains (option_map_or (λ (slot : Slot). type_codes s (entry_of by slot)) o []) g.code) (sym g.named) g.among
