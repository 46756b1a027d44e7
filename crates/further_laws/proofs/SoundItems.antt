-- Items of which each part has a sound value: those that are typed from sound trees.
use Rattle.std.proofs.Common.{Bool, true, false, cond, List, [], ◌∷◌, subst, Option, None, Some, inl, inr}
use Rattle.std.specs.Prelude.{codes, IfSome}
use Rattle.std.specs.List.{Contains, AllByRecursion}
use Rattle.fhir_json.specs.Tree.{Text, Tree}
use Rattle.fhir_json.specs.Fields.{text_in}
use Rattle.fhir_json.specs.Sound.{IsSound}
use Rattle.fhir_json.proofs.SoundParts.{SoundIfAny}
use Rattle.fhir_prims.specs.declared.prim.PrimType.{PrimType}
use Rattle.fhir_prims.specs.Values.{lexical}
use Rattle.fhir_nodes.specs.declared.node.NodeRef.{NodeRef}
use Rattle.fhir_forms.specs.declared.form.Content.{Content}
use Rattle.fhir_forms.specs.declared.form.Content.TheVariants.{Primitive, System, Resource, Complex}
use Rattle.fhir_schema.specs.Schemas.{SchemaValue, resource_root}
use Rattle.fhir_instance.specs.Items.{Item, item, Kids, no_kids, kid, Named, kids_of, kids_in}
use Rattle.fhir_instance.specs.declared.role.ObjectRole.{ObjectRole}
use Rattle.fhir_instance.specs.declared.role.ObjectRole.TheVariants as roles
use Rattle.fhir_instance.specs.Typing.{Frame, Value, Held, Field, Halves, item_with, plain_item, kids_by, primitive_item, is_filled_text, system_item, complex_item, resource_of_type, resource_item, alone, content_item}
use Rattle.fhir_contradictions.specs.Typing.{children_of}
use Rattle.fhir_contradictions.specs.Parts.{IsPartOf, itself, child}
use Rattle.fhir_contradictions.specs.Contradictions.{IsSoundValue}
use Rattle.fhir_contradictions.proofs.Listed.{contains_none, contains_cases}
use Rattle.further_laws.proofs.Holding.{if_mapped, any_then, if_true}

-- ---- items of which each part has a sound value

abbrev mutual
  -- its value is sound, if it has one, and so are those of the items below it
  pub IsSoundItem : Item → Type 0
  IsSoundItem (item code json kids) = SoundIfAny json × AreSoundKids kids

  -- those of such children are
  AreSoundKids : Kids → Type 0
  AreSoundKids no_kids = Unit {0}
  AreSoundKids (kid name x kids) = IsSoundItem x × AreSoundKids kids

-- so are those of a child and of the items below it
abbrev pub IsSoundKid : Named → Type 0
IsSoundKid k = IsSoundItem k.1

-- such children make such a list of children
kids_of_each : (ks : List Named) → AllByRecursion IsSoundKid ks → AreSoundKids (kids_in ks)
kids_of_each [] each = tt
kids_of_each (k ∷ ks) each = (each.0, kids_of_each ks each.1)

-- each child of the list is one
one_kid : (kids : Kids) (k : Named) → AreSoundKids kids → Contains (children_of kids) k → IsSoundKid k
one_kid no_kids k all has = absurd (contains_none k has)
one_kid (kid name x kids) k all has =
    elim (contains_cases (name, x) (children_of kids) k has) [
      | inl here ↦ subst IsSoundKid here all.0
      | inr there ↦ one_kid kids k all.1 there
    ]

-- so is each child of an item
child_sound : (z : Item) (k : Named) → IsSoundItem z → Contains (children_of (kids_of z)) k → IsSoundKid k
child_sound (item code json kids) k all has = one_kid kids k all.1 has

-- so is each part
pub part_sound : (x y : Item) → IsSoundItem x → IsPartOf x y → IsSoundItem y
part_sound x y all itself = all
part_sound x y all (child {z = z} name part has) = child_sound z (name, y) (part_sound x z all part) has

-- and its value is sound
pub value_sound : (y : Item) → IsSoundItem y → IsSoundValue y
value_sound (item code json kids) all t is = subst SoundIfAny is all.0

-- ---- values

-- the tree is sound, and so are the children in each frame
abbrev pub IsSoundOne : Value → Type 0
IsSoundOne v = IsSound v.json × ((frame : Frame) → IfSome (v.kids_as frame) (AllByRecursion IsSoundKid))

-- if there is one
abbrev pub IsSoundIfAny : Option Value → Type 0
IsSoundIfAny v = IfSome v IsSoundOne

-- what a property holds, and each value in it
abbrev pub IsSoundHeld : Held → Type 0
IsSoundHeld h = IsSoundOne h.itself × AllByRecursion IsSoundOne h.items

-- what a property of an object holds
abbrev pub IsSoundField : Field → Type 0
IsSoundField x = IsSoundHeld x.held

-- a value and its companion, each if it is there
abbrev pub AreSoundHalves : Halves → Type 0
AreSoundHalves h = IsSoundIfAny h.0 × IsSoundIfAny h.1

-- ---- the item of a content

-- an item with children is sound, if those are and its tree is
with_sound : (code : Text) (json : Option Tree) (kids : Option (List Named)) → SoundIfAny json → IfSome kids (AllByRecursion IsSoundKid)
    → IfSome (item_with code json kids) IsSoundItem
with_sound code json kids whole each =
    if_mapped (AllByRecursion IsSoundKid) IsSoundItem (λ ks. item code json (kids_in ks)) (λ ks all. (whole, kids_of_each ks all)) kids each

-- so is one without, if its tree is
plain_sound : (b : Bool) (code : Text) (t : Tree) → IsSound t → IfSome (plain_item b code t) IsSoundItem
plain_sound b code t whole = if_true IsSoundItem b (item code (Some t) no_kids) (whole, tt)

-- the children of an object that a node types are sound, if the value is
kids_sound : (role : ObjectRole) (below : Option NodeRef) (v : Value) → IsSoundOne v → IfSome (kids_by role below v) (AllByRecursion IsSoundKid)
kids_sound role below v all =
    any_then (AllByRecursion IsSoundKid) (λ n. v.kids_as (record { node = n; role = role })) (λ n. all.1 (record { node = n; role = role })) below

-- a primitive is sound, if its value and its companion are: it has the tree of the one and the children of the other
primitive_sound : (prim : PrimType) (below : Option NodeRef) (code : Text) (v c : Option Value) → IsSoundIfAny v → IsSoundIfAny c
    → IfSome (primitive_item prim below code v c) IsSoundItem
primitive_sound prim below code None None all more = tt
primitive_sound prim below code (Some v) None all more = plain_sound (lexical prim v.json) code v.json all.0
primitive_sound prim below code None (Some c) all more =
    with_sound code None (kids_by roles.Companion below c) tt (kids_sound roles.Companion below c more)
primitive_sound prim below code (Some v) (Some c) all more = go (lexical prim v.json)
  where
    go : (b : Bool) → IfSome (cond b (item_with code (Some v.json) (kids_by roles.Companion below c)) None) IsSoundItem
    go true = with_sound code (Some v.json) (kids_by roles.Companion below c) all.0 (kids_sound roles.Companion below c more)
    go false = tt

-- what is typed from a value alone is sound, if it is so for each sound value
alone_sound : (typed : Value → Option Item) → ((v : Value) → IsSoundOne v → IfSome (typed v) IsSoundItem)
    → (v c : Option Value) → IsSoundIfAny v → IfSome (alone typed v c) IsSoundItem
alone_sound typed each None c all = tt
alone_sound typed each (Some v) None all = each v all
alone_sound typed each (Some v) (Some c) all = tt

module _ (s : SchemaValue) where
  -- a resource is sound, if its value is
  pub resource_sound : (v : Value) → IsSoundOne v → IfSome (resource_item s v) IsSoundItem
  resource_sound v all =
      any_then IsSoundItem (resource_of_type s v)
      (λ code. with_sound code (Some v.json) (kids_by roles.Resource (resource_root s code) v) all.0
      (kids_sound roles.Resource (resource_root s code) v all))
      (text_in (codes "resourceType") v.json)

  -- so is the item of any content, if its value and its companion are
  pub content_sound : (content : Content) (code : Text) (v c : Option Value) → IsSoundIfAny v → IsSoundIfAny c
      → IfSome (content_item s content code v c) IsSoundItem
  content_sound (Primitive prim below) code v c all more = primitive_sound prim below code v c all more
  content_sound System code v c all more =
      alone_sound (system_item code) (λ w whole. plain_sound (is_filled_text w.json) code w.json whole.0) v c all
  content_sound Resource code v c all more = alone_sound (resource_item s) resource_sound v c all
  content_sound (Complex below) code v c all more =
      alone_sound (complex_item below code)
      (λ w whole. with_sound code (Some w.json) (kids_by roles.Element below w) whole.0 (kids_sound roles.Element below w whole)) v c all
