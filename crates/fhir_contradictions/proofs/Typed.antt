-- The type of a child, and the node that types the child's own children.
use Rattle.std.proofs.Common.{◌≡◌, ℕ, Bool, true, false, cond, not, List, [], ◌∷◌, Option, None, Some, is_some, refl, sym, ap, ◌∙◌, subst, ◌⊎◌, inl, inr, IsTrue, ◌||◌}
use Rattle.std.specs.Option.{option_map, option_map_or, option_and_then, option_or}
use Rattle.std.specs.List.{Contains, filter, list_any, slice_get}
use Rattle.std.specs.Prelude.{codes}
use Rattle.std.proofs.lemmas.Bool.{and_parts, or_cases, or_left, or_right, both_ways}
use Rattle.std.proofs.lemmas.Option.{none-some, same_Some}
use Rattle.fhir_json.specs.Tree.{Text, Tree}
use Rattle.fhir_json.specs.Fields.{text_in}
use Rattle.fhir_prims.specs.declared.prim.PrimType.{PrimType}
use Rattle.fhir_prims.specs.Values.{lexical}
use Rattle.fhir_elements.specs.TypeEntry.{TypeEntry}
use Rattle.fhir_definition.specs.Definition.{Definition}
use Rattle.fhir_definition.specs.Snapshot.{root_place}
use Rattle.fhir_nodes.specs.declared.node.NodeRef.{NodeRef}
use Rattle.fhir_nodes.specs.Types.{type_place, type_of_code, root_of_code, is_resource, names_resource, primitive_of, is_system}
use Rattle.fhir_forms.specs.declared.form.Content.TheVariants.{Primitive, System, Resource, Complex}
use Rattle.fhir_forms.specs.Forms.{content_of, typing_node}
use Rattle.fhir_forms.specs.Criteria.{sole}
use Rattle.fhir_schema.specs.Schemas.{SchemaValue, entry_of, types, child_holder, type_root, root_in, is_usable, is_concrete, resource_root}
use Rattle.fhir_schema.specs.Covers.{covers}
use Rattle.fhir_instance.specs.Items.{Item, item, Named, type_of, kids_of, kids_in}
use Rattle.fhir_instance.specs.Typing.{Value, content_item, item_with, plain_item, kids_by, primitive_item, system_item, complex_item, resource_item, resource_of_type, alone, is_filled_text, value_of, kids_as}
use Rattle.fhir_instance.specs.declared.role.ObjectRole.TheVariants as roles
use Rattle.fhir_conformance.specs.Conformance.{is_untyped}
use Rattle.fhir_contradictions.specs.Typing.{IsTypedBy, an_object, type_codes, may_be, allows_code, typed_inside, typed_at_slot, typed_under}
use Rattle.fhir_contradictions.proofs.Listed.{contains_none, contains_cases, in_filter}
use Rattle.fhir_contradictions.proofs.Slotted.{ArePlaced, IsOfType}
use Rattle.fhir_contradictions.proofs.Asked.{IsCovered}

-- ---- the type of an item by its content

-- what is typed from a value alone
pub by_value : (P : Item → Type 0) (typed : Value → Option Item) → ((v : Value) (y : Item) → typed v ≡ Some y → P y) → (v c : Option Value) (y : Item)
    → alone typed v c ≡ Some y → P y
by_value P typed each None c y is = absurd (none-some y is)
by_value P typed each (Some v) None y is = each v y is
by_value P typed each (Some v) (Some c) y is = absurd (none-some y is)

-- a code covers no other, unless it names a resource
abbrev pub IsCoveringAlone : SchemaValue → Type 0
IsCoveringAlone s = (a b : Text) → names_resource s.definitions a ≡ false → IsTrue (covers s a b) → a ≡ b

module _ (s : SchemaValue) where
  -- the item is of that type, or both are resources
  abbrev pub IsOfCode : Text → Item → Type 0
  IsOfCode code y = (type_of y ≡ code) ⊎ (IsTrue (names_resource s.definitions code) × IsTrue (names_resource s.definitions (type_of y)))

  -- an item with children is of that code
  type_with : (code : Text) (json : Option Tree) (kids : Option (List Named)) (y : Item) → item_with code json kids ≡ Some y → type_of y ≡ code
  type_with code json None y is = absurd (none-some y is)
  type_with code json (Some ks) y is = sym (ap type_of (same_Some (item code json (kids_in ks)) y is))

  -- so is one without
  type_plain : (b : Bool) (code : Text) (t : Tree) (y : Item) → plain_item b code t ≡ Some y → type_of y ≡ code
  type_plain true code t y is = sym (ap type_of (same_Some (item code (Some t) (kids_in [])) y is))
  type_plain false code t y is = absurd (none-some y is)

  -- and a primitive
  type_primitive : (prim : PrimType) (below : Option NodeRef) (code : Text) (v c : Option Value) (y : Item)
      → primitive_item prim below code v c ≡ Some y → type_of y ≡ code
  type_primitive prim below code None None y is = absurd (none-some y is)
  type_primitive prim below code (Some v) None y is = type_plain (lexical prim v.json) code v.json y is
  type_primitive prim below code None (Some c) y is = type_with code None (kids_by roles.Companion below c) y is
  type_primitive prim below code (Some v) (Some c) y is = go (lexical prim v.json) is
    where
      go : (b : Bool) → cond b (item_with code (Some v.json) (kids_by roles.Companion below c)) None ≡ Some y → type_of y ≡ code
      go true is = type_with code (Some v.json) (kids_by roles.Companion below c) y is
      go false is = absurd (none-some y is)

  -- a type of which resources can be is one of resources
  concrete_resource : (o : Option Definition) → IsTrue (option_map_or is_concrete o false) → IsTrue (option_map_or is_resource o false)
  concrete_resource None h = h
  concrete_resource (Some d) h = (and_parts (is_resource d) (not d.abstract) h).0

  -- a resource is of a type of resources
  type_resource_of : (v : Value) (code : Text) (y : Item) → resource_of_type s v code ≡ Some y → IsTrue (names_resource s.definitions (type_of y))
  type_resource_of v code y is =
      subst (λ (t : Text). IsTrue (names_resource s.definitions t)) (sym (type_with code (Some v.json) (kids_by roles.Resource (resource_root s code) v) y is))
      (go (option_map_or is_concrete (type_of_code s.definitions code) false) refl is)
    where
      go : (b : Bool) → option_map_or is_concrete (type_of_code s.definitions code) false ≡ b
          → item_with code (Some v.json) (kids_by roles.Resource (cond b (type_root s code) None) v) ≡ Some y → IsTrue (names_resource s.definitions code)
      go true e is = concrete_resource (type_of_code s.definitions code) e
      go false e is = absurd (none-some y is)

  -- whichever type it names
  type_resource : (v : Value) (y : Item) → resource_item s v ≡ Some y → IsTrue (names_resource s.definitions (type_of y))
  type_resource v y = go (text_in (codes "resourceType") v.json)
    where
      go : (o : Option Text) → option_and_then (resource_of_type s v) o ≡ Some y → IsTrue (names_resource s.definitions (type_of y))
      go None is = absurd (none-some y is)
      go (Some code) is = type_resource_of v code y is

  -- the type of an item that a code's content makes
  pub type_of_content : (k : NodeRef) (code : Text) (v c : Option Value) (y : Item) → content_item s (content_of s.definitions k code) code v c ≡ Some y
      → IsOfCode code y
  type_of_content k code v c y =
      go (is_system code) (names_resource s.definitions code) refl (primitive_of s.definitions code)
    where
      below : Option NodeRef
      below = typing_node s.definitions k code

      go : (system resource : Bool) → names_resource s.definitions code ≡ resource → (prim : Option PrimType)
          → content_item s (cond system System (cond resource Resource (option_map_or (λ (prim : PrimType). Primitive prim below) prim (Complex below)))) code v c ≡ Some y
          → IsOfCode code y
      go true resource e prim is = inl (by_value (λ z. type_of z ≡ code) (system_item code) (λ w z. type_plain (is_filled_text w.json) code w.json z) v c y is)
      go false true e prim is = inr (e, by_value (λ z. IsTrue (names_resource s.definitions (type_of z))) (resource_item s) type_resource v c y is)
      go false false e (Some prim) is = inl (type_primitive prim below code v c y is)
      go false false e None is =
          inl (by_value (λ z. type_of z ≡ code) (complex_item below code) (λ w z. type_with code (Some w.json) (kids_by roles.Element below w) z) v c y is)

  -- ---- a node to which the item conforms allows that code

  -- a code that covers a resource's names a resource
  resource_above : IsCoveringAlone s → (a b : Text) → IsTrue (covers s a b) → IsTrue (names_resource s.definitions b) → IsTrue (names_resource s.definitions a)
  resource_above alone a b covers names = go (names_resource s.definitions a) refl
    where
      go : (r : Bool) → names_resource s.definitions a ≡ r → names_resource s.definitions a ≡ true
      go true e = e
      go false e = ap (names_resource s.definitions) (alone a b e covers) ∙ names

  -- a code that covers the item's allows the code by which it was typed
  may_be_from : IsCoveringAlone s → (a code : Text) (y : Item) → IsOfCode code y → IsTrue (covers s a (type_of y)) → IsTrue (may_be s a code)
  may_be_from alone a code y of h = go (names_resource s.definitions code) refl
    where
      over : names_resource s.definitions code ≡ true → IsTrue (names_resource s.definitions a)
      over e =
          elim of [
            | inl same ↦ resource_above alone a code (subst (λ (t : Text). IsTrue (covers s a t)) same h) e
            | inr both ↦ resource_above alone a (type_of y) h both.1
          ]

      go : (r : Bool) → names_resource s.definitions code ≡ r → IsTrue (cond r (names_resource s.definitions a) (covers s a code))
      go true e = over e
      go false e =
          elim of [
            | inl same ↦ subst (λ (t : Text). IsTrue (covers s a t)) same h
            | inr both ↦ absurd (both_ways (names_resource s.definitions code) e both.0)
          ]

  -- so does one of several
  some_may_be : IsCoveringAlone s → (code : Text) (y : Item) → IsOfCode code y → (es : List TypeEntry)
      → IsTrue (list_any (λ (e : TypeEntry). covers s e.code (type_of y)) es) → IsTrue (list_any (λ (e : TypeEntry). may_be s e.code code) es)
  some_may_be alone code y of [] h = h
  some_may_be alone code y of (e ∷ es) h =
      elim (or_cases (covers s e.code (type_of y)) (list_any (λ (e : TypeEntry). covers s e.code (type_of y)) es) h) [
        | inl here ↦ or_left (may_be s e.code code) (list_any (λ (e : TypeEntry). may_be s e.code code) es) (may_be_from alone e.code code y of here)
        | inr there ↦ or_right (may_be s e.code code) (list_any (λ (e : TypeEntry). may_be s e.code code) es) (some_may_be alone code y of es there)
      ]

  -- a node of whose types one covers the item's allows that code
  pub allowed : IsCoveringAlone s → (n : NodeRef) (code : Text) (y : Item) → IsOfCode code y → IsCovered s y n → IsTrue (allows_code s n code)
  allowed alone n code y of h =
      elim (or_cases (is_untyped s n) (list_any (λ (e : TypeEntry). covers s e.code (type_of y)) (types s n)) h) [
        | inl none ↦ or_left (is_untyped s n) (list_any (λ (e : TypeEntry). may_be s e.code code) (types s n)) none
        | inr some ↦ or_right (is_untyped s n) (list_any (λ (e : TypeEntry). may_be s e.code code) (types s n)) (some_may_be alone code y of (types s n) some)
      ]

  -- a node to which a child conforms allows the child's type
  pub child_allowed : IsCoveringAlone s → (by : NodeRef) (name : Text) (y : Item) (n : NodeRef) → (g : IsOfType s by name y) → IsCovered s y n
      → IsTrue (allows_code s n g.code)
  child_allowed alone by name y n g h =
      allowed alone n g.code y
      (type_of_content (entry_of by g.slot) g.code (option_map (value_of s) g.value) (option_map (value_of s) g.companion) y g.is) h

  -- ---- the node that types the children of a child

  -- a type's root that can be used is the root of that code
  root_of_type : ArePlaced s → (code : Text) (r : NodeRef) → type_root s code ≡ Some r → root_of_code s.definitions code ≡ Some r
  root_of_type placed code r = by_place (type_place s.definitions code)
    where
      at : (place : ℕ) (o : Option Definition) → slice_get s.definitions place ≡ o → (b : Bool)
          → cond b (option_map (λ (e : ℕ). record { definition = place; element = e }) (root_place (option_map_or (λ (d : Definition). d.elements) o []))) None ≡ Some r
          → option_and_then (λ (d : Definition). option_map (λ (e : ℕ). record { definition = d.place; element = e }) (root_place d.elements)) o ≡ Some r
      at place o is false h = absurd (none-some r h)
      at place None is true h = absurd (none-some r h)
      at place (Some d) is true h =
          ap (λ (k : ℕ). option_map (λ (e : ℕ). record { definition = k; element = e }) (root_place d.elements)) (placed place d is) ∙ h

      by_place : (o : Option ℕ) → option_and_then (root_in s) o ≡ Some r
          → option_and_then (λ (d : Definition). option_map (λ (e : ℕ). record { definition = d.place; element = e }) (root_place d.elements))
          (option_and_then (slice_get s.definitions) o) ≡ Some r
      by_place None h = absurd (none-some r h)
      by_place (Some place) h = at place (slice_get s.definitions place) refl (is_usable s place) h

  -- the content of a code that isn't plain is an object, which that node types
  complex_content : ArePlaced s → (k : NodeRef) (code : Text) (inside : NodeRef) → typed_inside s k code ≡ Some inside
      → content_of s.definitions k code ≡ Complex (Some inside)
  complex_content placed k code inside =
      go (is_system code) (names_resource s.definitions code) (primitive_of s.definitions code)
    where
      node : (o : Option NodeRef) → option_or o (type_root s code) ≡ Some inside → option_or o (root_of_code s.definitions code) ≡ Some inside
      node None h = root_of_type placed code inside h
      node (Some held) h = h

      go : (system resource : Bool) (prim : Option PrimType)
          → cond (system || resource || is_some prim) None (option_or (child_holder s k) (type_root s code)) ≡ Some inside
          → cond system System (cond resource Resource (option_map_or (λ (prim : PrimType). Primitive prim (typing_node s.definitions k code)) prim (Complex (typing_node s.definitions k code)))) ≡ Complex (Some inside)
      go true resource prim h = absurd (none-some inside h)
      go false true prim h = absurd (none-some inside h)
      go false false (Some prim) h = absurd (none-some inside h)
      go false false None h = ap Complex (node (child_holder s k) h)

  -- an item of an object is typed by the node of its content
  typed_complex : (inside : NodeRef) (code : Text) (t : Tree) (y : Item) → complex_item (Some inside) code (value_of s t) ≡ Some y → IsTypedBy s inside y
  typed_complex inside code t y is = go (kids_as s t (record { node = inside; role = roles.Element })) refl is
    where
      go : (o : Option (List Named)) → kids_as s t (record { node = inside; role = roles.Element }) ≡ o → item_with code (Some t) o ≡ Some y → IsTypedBy s inside y
      go None e is = absurd (none-some y is)
      go (Some ks) e is = an_object (record {
        tree = t;
        role = roles.Element;
        kids = ks;
        typed = e;
        children = sym (ap kids_of (same_Some (item code (Some t) (kids_in ks)) y is));
      })

  -- where it has a value and no companion
  typed_alone : (inside : NodeRef) (code : Text) (v c : Option Tree) (y : Item)
      → alone (complex_item (Some inside) code) (option_map (value_of s) v) (option_map (value_of s) c) ≡ Some y → IsTypedBy s inside y
  typed_alone inside code None c y is = absurd (none-some y is)
  typed_alone inside code (Some v) None y is = typed_complex inside code v y is
  typed_alone inside code (Some v) (Some c) y is = absurd (none-some y is)

  -- what a list contains is its only element, if it has one alone
  only : (xs : List Text) (x c : Text) → sole xs ≡ Some c → Contains xs x → c ≡ x
  only [] x c is has = absurd (none-some c is)
  only (y ∷ []) x c is has =
      elim (contains_cases y [] x has) [
        | inl here ↦ sym (same_Some y c is) ∙ here
        | inr there ↦ absurd (contains_none x there)
      ]
  only (y ∷ z ∷ xs) x c is has = absurd (none-some c is)

  -- a child whose type is the only one that the node allows is typed by the node of that type
  pub typed_child : ArePlaced s → (by : NodeRef) (name : Text) (y : Item) (n inside : NodeRef) → (g : IsOfType s by name y) → IsTrue (allows_code s n g.code)
      → typed_under s by name n ≡ Some inside → IsTypedBy s inside y
  typed_child placed by name y n inside g allows is =
      at_only (sole (filter (allows_code s n) (type_codes s (entry_of by g.slot)))) refl
      (subst (λ o. option_and_then (typed_at_slot s by n) o ≡ Some inside) g.named is)
    where
      at_only : (o : Option Text) → sole (filter (allows_code s n) (type_codes s (entry_of by g.slot))) ≡ o
          → option_and_then (typed_inside s (entry_of by g.slot)) o ≡ Some inside → IsTypedBy s inside y
      at_only None one h = absurd (none-some inside h)
      at_only (Some c) one h =
          let same : c ≡ g.code =
          only (filter (allows_code s n) (type_codes s (entry_of by g.slot))) g.code c one
          (in_filter (allows_code s n) (type_codes s (entry_of by g.slot)) g.code g.among allows) in
          let content : content_of s.definitions (entry_of by g.slot) g.code ≡ Complex (Some inside) =
          complex_content placed (entry_of by g.slot) g.code inside (subst (λ (t : Text). typed_inside s (entry_of by g.slot) t ≡ Some inside) same h) in
          typed_alone inside g.code g.value g.companion y
          (subst (λ d. content_item s d g.code (option_map (value_of s) g.value) (option_map (value_of s) g.companion) ≡ Some y) content g.is)
