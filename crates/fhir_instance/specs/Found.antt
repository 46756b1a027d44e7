-- What has been found of an object's children (used by private contracts alone).
use Rattle.std.specs.Prelude.{ℕ, ◌<◌, List, Option, Some, None, is_some, IsTrue, if◌then◌else◌}
use Rattle.std.specs.Borrow.{Bor}
use Rattle.std.specs.Option.{option_and_then, option_map, IfSome}
use Rattle.std.specs.List.{slice_get}
use Rattle.fhir_json.specs.Tree.{Text, Tree}
use Rattle.fhir_json.specs.Views.{tree_of, members_view, tree_seen, property_of}
use Rattle.fhir_json.specs.declared.json.Json.{Json}
use Rattle.fhir_json.specs.declared.json.Member.{Member}
use Rattle.fhir_prims.specs.Values.{lexical}
use Rattle.fhir_forms.specs.declared.form.Content.{Content}
use Rattle.fhir_forms.specs.declared.form.Content.TheVariants.{Primitive, System, Resource, Complex}
use Rattle.fhir_nodes.specs.declared.node.NodeRef.{NodeRef}
use Rattle.fhir_forms.specs.Forms.{Form, is_primitive}
use Rattle.fhir_schema.specs.Schemas.{SchemaValue}
use Rattle.fhir_instance.specs.Items.{Item, Named}
use Rattle.fhir_instance.specs.Typing.{Frame, Value, Held, Field, Halves, value_of, held_of, fields_of, if_not_null, place_items, under, is_null, plain_item}
use Rattle.fhir_instance.specs.View.{named_in}
use Rattle.fhir_instance.specs.declared.role.ObjectRole.{ObjectRole}
use Rattle.fhir_instance.specs.declared.found.Found.{Found}
use Rattle.fhir_instance.specs.declared.spelled.Places.{Places}

-- the children so far, or none where something has no item
abbrev pub kids_found : Found → Option (List Named)
kids_found f = if is_some f.misfit then None else Some (named_in f.kids.items)

abbrev pub frame_of : NodeRef → ObjectRole → Frame
frame_of node role = record { node = node; role = role }

abbrev pub fields_in : SchemaValue → List Member → List Field
fields_in s ms = fields_of s (members_view ms)

abbrev pub value_in_hand : SchemaValue → Json → Option Value
value_in_hand s j = if_not_null (value_of s (tree_of j))

abbrev pub held_in_hand : SchemaValue → Json → Held
held_in_hand s j = held_of s (tree_of j)

-- what stands in the member at a place
abbrev pub held_at : SchemaValue → List Member → Option ℕ → Option Held
held_at s ms at = option_and_then (λ i. option_map (λ m. held_of s (property_of m).1) (slice_get ms i)) at

-- what stands in the values of an array, side by side with its companions
abbrev pub halves_in_hand : SchemaValue → Json → Json → Halves
halves_in_hand s v c = (value_in_hand s v, value_in_hand s c)

-- a value and its companion, where the element doesn't repeat
abbrev pub one_items : SchemaValue → Form → Option Value → Option Value → Option (List Named)
one_items s f (Some v) (Some c) = place_items s f (Some v, Some c)
one_items s f (Some v) None = None
one_items s f None c = None

-- a value that isn't null, if there is one
abbrev pub given : SchemaValue → Option (Bor Json) → Option Value
given s v = option_map (λ t. value_of s t) (tree_seen v)

abbrev pub IsWithin : Option ℕ → ℕ → Type 0
IsWithin at count = IfSome at (λ i. i < count)

-- the places are ones of so many members, and only a primitive has a companion
abbrev pub ArePlaces : Form → ℕ → Places → Type 0
ArePlaces f count at =
    IsWithin at.value count × IsWithin at.companion count × IfSome at.companion (λ _. IsTrue (is_primitive f.content))

-- a primitive whose companion is null
abbrev pub uncompanied_as : Content → Text → Tree → Option Item
uncompanied_as (Primitive prim below) code t = if is_null t then None else plain_item (lexical prim t) code t
uncompanied_as System code t = None
uncompanied_as Resource code t = None
uncompanied_as (Complex below) code t = None

abbrev pub uncompanied : Form → Tree → Option (List Named)
uncompanied f t = under f (uncompanied_as f.content f.code t)
