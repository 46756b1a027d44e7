-- Which item a tree is (FHIR R4, JSON representation of resources). Type definitions alone say so, never a profile: they
-- say under which properties an object's elements stand, and what each holds.
--
-- A value may be typed as an object of any frame, so it is folded into its children in each: what a frame asks of an
-- object is asked of the children of what its properties hold.
use Rattle.std.specs.Prelude.{◌≡◌, List, [], ◌∷◌, ◌++◌, map, filter, length, Bool, true, false, not, ◌&&◌, ◌||◌, ◌==◌, nat_eq, nat_lt, Option, None, Some, if◌then◌else◌, codes}
use Rattle.std.specs.Option.{option_map, option_and_then}
use Rattle.std.specs.List.{list_all, list_any, find, zip, starts_with}
use Rattle.std.specs.Str.{bytes_eq}
use Rattle.fhir_json.specs.Tree.{Text, Tree, null, boolean, number, string, array, object, Items, no_items, Members, no_members, member}
use Rattle.fhir_json.specs.Tree.{item as one_more}
use Rattle.fhir_json.specs.Fields.{text_in, text_or_empty}
use Rattle.fhir_prims.specs.declared.prim.PrimType.{PrimType}
use Rattle.fhir_prims.specs.Values.{lexical}
use Rattle.fhir_nodes.specs.declared.node.NodeRef.{NodeRef}
use Rattle.fhir_forms.specs.declared.form.Content.{Content}
use Rattle.fhir_forms.specs.declared.form.Content.TheVariants.{Primitive, System, Resource, Complex}
use Rattle.fhir_forms.specs.Forms.{Form, is_primitive, companion_name, spells}
use Rattle.fhir_schema.specs.Schemas.{SchemaValue, forms, resource_root}
use Rattle.fhir_instance.specs.Items.{Item, item, no_kids, Named, kids_in}
use Rattle.fhir_instance.specs.declared.role.ObjectRole.{ObjectRole}
use Rattle.fhir_instance.specs.declared.role.ObjectRole.TheVariants as roles

-- ---- frames: which properties an object may have

-- an object is typed by a node, as that of an element, of a resource, or of the companion of a primitive
pub record Frame : Type 0 where
  pub node : NodeRef
  pub role : ObjectRole

-- the property that names the type of a resource
abbrev pub names_type : Text → Bool
names_type name = bytes_eq name (codes "resourceType")

-- In a resource `resourceType` is no element, whatever its type has. A companion has an id and extensions alone.
abbrev pub is_of_role : ObjectRole → Form → Bool
is_of_role roles.Element f = true
is_of_role roles.Resource f = not (names_type f.property)
is_of_role roles.Companion f = bytes_eq f.name (codes "id") || bytes_eq f.name (codes "extension")

abbrev pub names_type_in : ObjectRole → Text → Bool
names_type_in roles.Element name = false
names_type_in roles.Resource name = names_type name
names_type_in roles.Companion name = false

-- the forms of an object's elements
abbrev pub forms_in : SchemaValue → Frame → List Form
forms_in s frame = filter (is_of_role frame.role) (forms s frame.node)

-- a companion holds no companions, whose names begin with `_`
abbrev pub may_stand : ObjectRole → Text → Bool
may_stand roles.Element name = true
may_stand roles.Resource name = true
may_stand roles.Companion name = not (starts_with nat_eq name (codes "_"))

-- the property is an element's and may stand there, or it names the type
abbrev pub is_known : SchemaValue → Frame → Text → Bool
is_known s frame name = (list_any (λ f. spells f name) (forms_in s frame) && may_stand frame.role name) || names_type_in frame.role name

-- ---- what an object's properties hold

-- a value as those who type it see it: itself, and its children as an object of each frame, if it is one of that
pub record Value : Type 0 where
  pub json : Tree
  pub kids_as : Frame → Option (List Named)

-- what a property holds: a value, and where that is an array the values in it
pub record Held : Type 0 where
  pub itself : Value
  pub items : List Value

-- a property of an object
pub record Field : Type 0 where
  pub name : Text
  pub held : Held

-- ---- all or none

-- both lists, one behind the other, if both are there
abbrev pub both : {A : Type 0} → Option (List A) → Option (List A) → Option (List A)
both a b = option_and_then (λ xs. option_map (λ ys. xs ++ ys) b) a

-- all of the lists, one behind the other, if all are there
abbrev pub joined : {A : Type 0} → List (Option (List A)) → Option (List A)
joined [] = Some []
joined (a ∷ rest) = both a (joined rest)

abbrev pub where_true : {A : Type 0} → Bool → A → Option A
where_true b x = if b then Some x else None

-- ---- an item of each kind of content

-- an item with these children, if they are there
abbrev pub item_with : Text → Option Tree → Option (List Named) → Option Item
item_with code json kids = option_map (λ ks. item code json (kids_in ks)) kids

-- an item without children
abbrev pub plain_item : Bool → Text → Tree → Option Item
plain_item is_right code t = where_true is_right (item code (Some t) no_kids)

-- the children of an object that a node types
abbrev pub kids_by : ObjectRole → Option NodeRef → Value → Option (List Named)
kids_by role below v = option_and_then (λ n. v.kids_as (record { node = n; role = role })) below

-- a primitive, by its value and its companion: either may be absent, but not both
abbrev pub primitive_item : PrimType → Option NodeRef → Text → Option Value → Option Value → Option Item
primitive_item prim below code None None = None
primitive_item prim below code (Some v) None = plain_item (lexical prim v.json) code v.json
primitive_item prim below code None (Some c) = item_with code None (kids_by roles.Companion below c)
primitive_item prim below code (Some v) (Some c) =
    if lexical prim v.json then item_with code (Some v.json) (kids_by roles.Companion below c) else None

-- a text of one of FHIRPath's own types isn't empty
abbrev pub is_filled_text : Tree → Bool
is_filled_text t = nat_lt 0 (length (text_or_empty t))

abbrev pub system_item : Text → Value → Option Item
system_item code v = plain_item (is_filled_text v.json) code v.json

abbrev pub complex_item : Option NodeRef → Text → Value → Option Item
complex_item below code v = item_with code (Some v.json) (kids_by roles.Element below v)

-- a resource of the type that its `resourceType` names, if a resource may be of that
abbrev pub resource_of_type : SchemaValue → Value → Text → Option Item
resource_of_type s v code = item_with code (Some v.json) (kids_by roles.Resource (resource_root s code) v)

abbrev pub resource_item : SchemaValue → Value → Option Item
resource_item s v = option_and_then (resource_of_type s v) (text_in (codes "resourceType") v.json)

-- what isn't primitive has a value, and no companion
abbrev pub alone : (Value → Option Item) → Option Value → Option Value → Option Item
alone typed None c = None
alone typed (Some v) None = typed v
alone typed (Some v) (Some c) = None

-- the item of a value and of its companion, each if it is there
abbrev pub content_item : SchemaValue → Content → Text → Option Value → Option Value → Option Item
content_item s (Primitive prim below) code v c = primitive_item prim below code v c
content_item s System code v c = alone (system_item code) v c
content_item s Resource code v c = alone (resource_item s) v c
content_item s (Complex below) code v c = alone (complex_item below code) v c

-- ---- what stands in a property

-- null stands for nothing, and that in arrays alone
abbrev pub is_null : Tree → Bool
is_null null = true
is_null _ = false

abbrev pub if_not_null : Value → Option Value
if_not_null v = if is_null v.json then None else Some v

-- the values of an array that isn't empty, where the element repeats, and else the one value, which isn't null
abbrev pub values_in : Bool → Held → Option (List (Option Value))
values_in true x = where_true (nat_lt 0 (length x.items)) (map if_not_null x.items)
values_in false x = option_map (λ v. Some v ∷ []) (if_not_null x.itself)

-- a value and its companion, which stand at one place of a property and of the one beside it
abbrev pub Halves : Type 0
Halves = Option Value × Option Value

-- the values of two arrays of one length, place by place
abbrev pub side_by_side : List (Option Value) → List (Option Value) → Option (List Halves)
side_by_side vs cs = where_true (length vs == length cs) (zip vs cs)

-- what stands at each place of a property and of its companion
abbrev pub places_of : Bool → Option Held → Option Held → Option (List Halves)
places_of repeats None None = Some []
places_of repeats (Some v) None = option_map (map (λ p. (p, None))) (values_in repeats v)
places_of repeats None (Some c) = option_map (map (λ p. (None, p))) (values_in repeats c)
places_of repeats (Some v) (Some c) =
    option_and_then (λ vs. option_and_then (side_by_side vs) (values_in repeats c)) (values_in repeats v)

-- ---- the items of a form, and the children of an object

-- what the property of a name holds
abbrev pub held_by : Text → List Field → Option Held
held_by name fields = option_map (λ x. x.held) (find (λ x. bytes_eq name x.name) fields)

abbrev pub value_in : Form → List Field → Option Held
value_in f fields = held_by f.property fields

abbrev pub companion_in : Form → List Field → Option Held
companion_in f fields = if is_primitive f.content then held_by (companion_name f) fields else None

-- an item under the element's name
abbrev pub under : Form → Option Item → Option (List Named)
under f x = option_map (λ x. (f.name, x) ∷ []) x

abbrev pub place_items : SchemaValue → Form → Halves → Option (List Named)
place_items s f h = under f (content_item s f.content f.code h.0 h.1)

-- an item for each place of the form's property
abbrev pub items_from : SchemaValue → Form → Option Held → Option Held → Option (List Named)
items_from s f v c = option_and_then (λ hs. joined (map (place_items s f) hs)) (places_of f.repeats v c)

abbrev pub form_items : SchemaValue → List Field → Form → Option (List Named)
form_items s fields f = items_from s f (value_in f fields) (companion_in f fields)

-- The children of an object that isn't empty: each of its properties is known, and the forms have an item for each value
-- in their properties.
abbrev pub object_kids : SchemaValue → Frame → List Field → Option (List Named)
object_kids s frame fields =
    if nat_lt 0 (length fields) && list_all (λ x. is_known s frame x.name) fields
    then joined (map (form_items s fields) (forms_in s frame)) else None

abbrev mutual
  pub kids_as : SchemaValue → Tree → Frame → Option (List Named)
  kids_as s null frame = None
  kids_as s (boolean b) frame = None
  kids_as s (number n) frame = None
  kids_as s (string t) frame = None
  kids_as s (array ts) frame = None
  kids_as s (object ms) frame = object_kids s frame (fields_of s ms)

  pub fields_of : SchemaValue → Members → List Field
  fields_of s no_members = []
  fields_of s (member name t ms) =
      record {
        name = name;
        held = record { itself = record { json = t; kids_as = kids_as s t }; items = items_in s t };
      }
      ∷ fields_of s ms

  pub items_in : SchemaValue → Tree → List Value
  items_in s null = []
  items_in s (boolean b) = []
  items_in s (number n) = []
  items_in s (string t) = []
  items_in s (array ts) = values_of s ts
  items_in s (object ms) = []

  pub values_of : SchemaValue → Items → List Value
  values_of s no_items = []
  values_of s (one_more t ts) = record { json = t; kids_as = kids_as s t } ∷ values_of s ts

abbrev pub value_of : SchemaValue → Tree → Value
value_of s t = record { json = t; kids_as = kids_as s t }

abbrev pub held_of : SchemaValue → Tree → Held
held_of s t = record { itself = value_of s t; items = items_in s t }

-- The item that a tree is, as a resource.
abbrev pub resource : SchemaValue → Tree → Option Item
resource s t = resource_item s (value_of s t)

-- The tree is a resource, and this is its item. A tree has at most one.
abbrev pub Types : SchemaValue → Tree → Item → Type 0
Types s t x = resource s t ≡ Some x
