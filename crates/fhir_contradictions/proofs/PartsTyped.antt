-- Each item of a resource has no children, or is an object of a node of a type definition that can be used; where types are regular, that is
-- the root of its type, unless this is abstract.
use Rattle.std.proofs.Common.{◌≡◌, Bool, true, false, cond, List, Option, None, Some, refl, sym, ap, ◌∙◌, subst, ◌⊎◌, inl, inr, IsTrue}
use Rattle.std.specs.Prelude.{codes}
use Rattle.std.specs.Option.{option_map, option_map_or, option_or}
use Rattle.std.specs.List.{Contains}
use Rattle.std.proofs.lemmas.Option.{none-some, same_Some, option_and_then_some}
use Rattle.fhir_json.specs.Tree.{Text, Tree}
use Rattle.fhir_json.specs.Fields.{text_in}
use Rattle.fhir_prims.specs.declared.prim.PrimType.{PrimType}
use Rattle.fhir_prims.specs.Values.{lexical}
use Rattle.fhir_nodes.specs.declared.node.NodeRef.{NodeRef}
use Rattle.fhir_nodes.specs.Types.{type_of_code, root_of_code, names_resource, primitive_of, is_system}
use Rattle.fhir_forms.specs.declared.form.Content.TheVariants.{Primitive, System, Resource, Complex}
use Rattle.fhir_forms.specs.Forms.{content_of, typing_node}
use Rattle.fhir_schema.specs.Usability.{IsClosed}
use Rattle.fhir_schema.specs.Schemas.{SchemaValue, forms, entry_of, child_holder, type_root, is_concrete, resource_root}
use Rattle.fhir_instance.specs.Items.{Item, item, Kids, no_kids, Named, type_of, kids_of, kids_in}
use Rattle.fhir_instance.specs.declared.role.ObjectRole.{ObjectRole}
use Rattle.fhir_instance.specs.declared.role.ObjectRole.TheVariants as roles
use Rattle.fhir_instance.specs.Typing.{Value, Types, content_item, item_with, plain_item, kids_by, primitive_item, system_item, complex_item, resource_item, resource_of_type, alone, is_filled_text, value_of, kids_as}
use Rattle.fhir_contradictions.specs.Typing.{IsObjectOf, IsTypedBy, childless, an_object, IsTypedIfKnown, type_codes, children_of}
use Rattle.fhir_contradictions.specs.Regular.{may_have_items, are_regular}
use Rattle.fhir_contradictions.specs.Parts.{IsPartOf, itself, child}
use Rattle.fhir_contradictions.proofs.Listed.{contains_none}
use Rattle.fhir_contradictions.proofs.Formed.{IsOfForm, child_of_form}
use Rattle.fhir_contradictions.proofs.Slotted.{ArePlaced, IsOfSlot, form_of_slot}
use Rattle.fhir_contradictions.proofs.Homes.{IsUsed, IsInner, slot_inner}
use Rattle.fhir_contradictions.proofs.Reached.{root_used, usable_type_root}
use Rattle.fhir_contradictions.proofs.Codes.{code_usable, holder_holds, none_inline}

-- the node is the root of that type, unless the type is abstract
abbrev IsByRoot : SchemaValue → NodeRef → Text → Type 0
IsByRoot s n code = IsTrue (may_have_items s code) → (r : NodeRef) → type_root s code ≡ Some r → n ≡ r

-- the item is an object of a node of a type definition that can be used, the root of its type, unless that is abstract
record IsByNode (s : SchemaValue) (y : Item) : Type 0 where
  node : NodeRef
  used : IsUsed s node
  object : IsObjectOf s node y
  root : IsByRoot s node (type_of y)

-- it is one, or it has no children
abbrev IsSound : SchemaValue → Item → Type 0
IsSound s y = (kids_of y ≡ no_kids) ⊎ IsByNode s y

-- an item of a value has no children
plain_childless : (b : Bool) (code : Text) (t : Tree) (y : Item) → plain_item b code t ≡ Some y → kids_of y ≡ no_kids
plain_childless true code t y is = sym (ap kids_of (same_Some (item code (Some t) no_kids) y is))
plain_childless false code t y is = absurd (none-some y is)

module _ (s : SchemaValue) (placed : ArePlaced s) (closed : IsClosed s.definitions s.reasons) (regular : IsTrue (are_regular s)) where
  -- the node is one of a type definition that can be used, and the root of that type, unless the type is abstract
  abbrev Leads : NodeRef → Text → Type 0
  Leads n code = IsUsed s n × IsByRoot s n code

  -- ---- the item of a content

  -- an item with the children of an object is one of the object's node
  object_with : (role : ObjectRole) (below : Option NodeRef) (code : Text) (json : Option Tree) (t : Tree) (y : Item)
      → ((n : NodeRef) → below ≡ Some n → Leads n code) → item_with code json (kids_by role below (value_of s t)) ≡ Some y
      → IsByNode s y
  object_with role None code json t y leads is = absurd (none-some y is)
  object_with role (Some n) code json t y leads is = go (kids_as s t (record { node = n; role = role })) refl is
    where
      go : (o : Option (List Named)) → kids_as s t (record { node = n; role = role }) ≡ o → item_with code json o ≡ Some y → IsByNode s y
      go None typed is = absurd (none-some y is)
      go (Some ks) typed is =
          let same : item code json (kids_in ks) ≡ y = same_Some (item code json (kids_in ks)) y is in
          let to = leads n refl in
          record {
            node = n;
            used = to.0;
            object = record { tree = t; role = role; kids = ks; typed = typed; children = sym (ap kids_of same) };
            root = subst (IsByRoot s n) (ap type_of same) to.1;
          }

  -- what is typed from a value alone
  by_tree : (typed : Value → Option Item) → ((t : Tree) (y : Item) → typed (value_of s t) ≡ Some y → IsSound s y)
      → (v c : Option Tree) (y : Item) → alone typed (option_map (value_of s) v) (option_map (value_of s) c) ≡ Some y → IsSound s y
  by_tree typed each None c y is = absurd (none-some y is)
  by_tree typed each (Some v) None y is = each v y is
  by_tree typed each (Some v) (Some c) y is = absurd (none-some y is)

  -- a resource's node is the root of its type
  resource_leads : (code : Text) (n : NodeRef) → resource_root s code ≡ Some n → Leads n code
  resource_leads code n = go (option_map_or is_concrete (type_of_code s.definitions code) false)
    where
      go : (b : Bool) → cond b (type_root s code) None ≡ Some n → Leads n code
      go true is = (root_used s placed closed code n is, λ may r at. same_Some n r (sym is ∙ at))
      go false is = absurd (none-some n is)

  -- so a resource is sound
  resource_sound : (t : Tree) (y : Item) → resource_item s (value_of s t) ≡ Some y → IsByNode s y
  resource_sound t y is =
      option_and_then_some (resource_of_type s (value_of s t)) (text_in (codes "resourceType") t) y is
      (λ code named made. object_with roles.Resource (resource_root s code) code (Some t) t y (resource_leads code) made)

  -- so is a primitive, whose companion may have children
  primitive_sound : (prim : PrimType) (below : Option NodeRef) (code : Text) (v c : Option Tree) (y : Item)
      → ((n : NodeRef) → below ≡ Some n → Leads n code)
      → primitive_item prim below code (option_map (value_of s) v) (option_map (value_of s) c) ≡ Some y → IsSound s y
  primitive_sound prim below code None None y leads is = absurd (none-some y is)
  primitive_sound prim below code (Some v) None y leads is = inl (plain_childless (lexical prim v) code v y is)
  primitive_sound prim below code None (Some c) y leads is = inr (object_with roles.Companion below code None c y leads is)
  primitive_sound prim below code (Some v) (Some c) y leads is = go (lexical prim v) is
    where
      go : (b : Bool) → cond b (item_with code (Some v) (kids_by roles.Companion below (value_of s c))) None ≡ Some y → IsSound s y
      go true is = inr (object_with roles.Companion below code (Some v) c y leads is)
      go false is = absurd (none-some y is)

  -- the node that types the children of an element's items
  typing_leads : (n m : NodeRef) (code : Text) → IsInner s n → Contains (type_codes s n) code → is_system code ≡ false
      → typing_node s.definitions n code ≡ Some m → Leads m code
  typing_leads n m code g has own = go (child_holder s n) refl
    where
      go : (o : Option NodeRef) → child_holder s n ≡ o → option_or o (root_of_code s.definitions code) ≡ Some m → Leads m code
      go None held is =
          let root : type_root s code ≡ Some m = usable_type_root s placed closed code m (code_usable s placed closed n code g has own) is in
          (root_used s placed closed code m root, λ may r at. same_Some m r (sym root ∙ at))
      go (Some h) held is =
          let holds = holder_holds s placed closed n h code g has held in
          subst (λ (k : NodeRef). Leads k code) (same_Some h m is)
          (holds.inner.used, λ may r at. absurd (none_inline s placed closed regular h code holds may))

  -- the item of an element's content is sound
  content_sound : (n : NodeRef) (code : Text) (v c : Option Tree) (y : Item) → IsInner s n → Contains (type_codes s n) code
      → content_item s (content_of s.definitions n code) code (option_map (value_of s) v) (option_map (value_of s) c) ≡ Some y → IsSound s y
  content_sound n code v c y g has = go (is_system code) refl (names_resource s.definitions code) (primitive_of s.definitions code)
    where
      below : Option NodeRef
      below = typing_node s.definitions n code

      go : (system : Bool) → is_system code ≡ system → (resource : Bool) (prim : Option PrimType)
          → content_item s (cond system System (cond resource Resource
          (option_map_or (λ (prim : PrimType). Primitive prim below) prim (Complex below)))) code
          (option_map (value_of s) v) (option_map (value_of s) c) ≡ Some y
          → IsSound s y
      go true own resource prim is = by_tree (system_item code) (λ t z is. inl (plain_childless (is_filled_text t) code t z is)) v c y is
      go false own true prim is = by_tree (resource_item s) (λ t z is. inr (resource_sound t z is)) v c y is
      go false own false (Some prim) is = primitive_sound prim below code v c y (λ m. typing_leads n m code g has own) is
      go false own false None is =
          by_tree (complex_item below code)
          (λ t z is. inr (object_with roles.Element below code (Some t) t z (λ m. typing_leads n m code g has own) is)) v c y is

  -- ---- the parts of a resource

  -- a child of a sound item is sound
  child_sound : (z y : Item) (name : Text) → IsSound s z → Contains (children_of (kids_of z)) (name, y) → IsSound s y
  child_sound z y name (inl none) has =
      absurd (contains_none (name, y) (subst (λ (ks : Kids). Contains (children_of ks) (name, y)) none has))
  child_sound z y name (inr b) has = of_form (child_of_form s b.node z (name, y) (an_object b.object) has)
    where
      of_slot : (g : IsOfForm s (forms s b.node) (name, y)) → IsOfSlot s b.node g.form → IsSound s y
      of_slot g k =
          content_sound (entry_of b.node k.slot) g.form.code g.value g.companion y (slot_inner s placed closed b.node k.slot b.used k.among) k.code
          (subst (λ content. content_item s content g.form.code (option_map (value_of s) g.value) (option_map (value_of s) g.companion) ≡ Some y)
          k.content g.is)

      of_form : IsOfForm s (forms s b.node) (name, y) → IsSound s y
      of_form g = of_slot g (form_of_slot s b.node g.form placed g.among)

  -- so is each part of a resource
  part_sound : (t : Tree) (x y : Item) → Types s t x → IsPartOf x y → IsSound s y
  part_sound t x y typed itself = inr (resource_sound t x typed)
  part_sound t x y typed (child {z = z} name part has) = child_sound z y name (part_sound t x z typed part) has

  -- the root of its type types a sound item, unless the type is abstract
  root_types : (y : Item) → IsSound s y → IsTrue (may_have_items s (type_of y)) → IsTypedIfKnown s (type_root s (type_of y)) y
  root_types y sound may r is = ((root_used s placed closed (type_of y) r is).known, by sound)
    where
      by : IsSound s y → IsTypedBy s r y
      by (inl none) = childless none
      by (inr b) = an_object (subst (λ (n : NodeRef). IsObjectOf s n y) (b.root may r is) b.object)

  -- and so each part of a resource
  pub part_typed : (t : Tree) (x y : Item) → Types s t x → IsPartOf x y → IsTrue (may_have_items s (type_of y))
      → IsTypedIfKnown s (type_root s (type_of y)) y
  part_typed t x y typed part = root_types y (part_sound t x y typed part)
