-- The pairs of node and item to which a resource that conforms has to conform, and their constraints (FHIR R4, ElementDefinition,
-- constraint; FHIRPath N1).
use Rattle.std.specs.Prelude.{◌≡◌, ◌⊎◌, ℕ, List, [], ◌∷◌, ◌++◌, filter, false, None, Some, IsTrue}
use Rattle.std.specs.List.{Contains}
use Rattle.fhir_json.specs.Tree.{Text, Tree}
use Rattle.fhir_elements.specs.Constraint.{Constraint, must_hold}
use Rattle.fhir_elements.specs.TypeEntry.{TypeEntry}
use Rattle.fhir_nodes.specs.declared.node.NodeRef.{NodeRef}
use Rattle.fhir_nodes.specs.Expressions.{expression_of}
use Rattle.fhir_fp_syntax.specs.Expression.{Expression}
use Rattle.fhir_fp_eval.specs.Meaning.{is_true}
use Rattle.fhir_facets.specs.Unread.{unread_constraint, is_given}
use Rattle.fhir_schema.specs.Schemas.{SchemaValue, is_root_node, loaded, root as root_of, target, types}
use Rattle.fhir_schema.specs.Covers.{covers}
use Rattle.fhir_schema.specs.Expressions.{constraint_at}
use Rattle.fhir_instance.specs.Items.{Item, Place, kids_of, type_of}
use Rattle.fhir_instance.specs.Typing.{Types}
use Rattle.fhir_conformance.specs.Positions.{kid_at}
use Rattle.fhir_conformance.specs.Asks.{asks, root, child}
use Rattle.fhir_conformance.specs.Conformance.{nearest_to}

-- the type entries of a node that allow the item's type
abbrev pub entries_for : SchemaValue → Item → NodeRef → List TypeEntry
entries_for s x n = filter (λ e. covers s e.code (type_of x)) (types s n)

-- The profile's root with the outermost item; and with a pair the root of the item's own type, the root of a profile that is the only one of
-- the only type entry for the item, and each child with the node that it is asked to conform to. Where several profiles are named, one is
-- enough, and so none of them is needed.
pub data Needed (s : SchemaValue) (outermost : Item) (profile : NodeRef) : Place → Item → Item → NodeRef → Type 0 where
  first : {place : Place} {resource x : Item} {n : NodeRef}
      → place ≡ [] → resource ≡ outermost → x ≡ outermost → n ≡ profile → Needed s outermost profile place resource x n
  at_item : {place : Place} {resource x : Item} {n m : NodeRef}
      → Needed s outermost profile place resource x n → Contains (asks s x n) (root m) → Needed s outermost profile place resource x m
  at_profile : {place : Place} {resource x : Item} {n m : NodeRef} (entry : TypeEntry) (url : Text)
      → Needed s outermost profile place resource x n → is_root_node s n ≡ false → entries_for s x n ≡ entry ∷ []
      → entry.profiles ≡ url ∷ [] → loaded s url ≡ Some m → Needed s outermost profile place resource x m
  at_child : {place within : Place} {resource nearer x y : Item} {n m : NodeRef} (i : ℕ)
      → Needed s outermost profile place resource x n → Contains (asks s x n) (child i m) → kid_at (kids_of x) i ≡ Some y
      → within ≡ place ++ i ∷ [] → nearer ≡ nearest_to s resource y → Needed s outermost profile within nearer y m

-- the constraint has an expression that is read, and that is true of the item, where that is the nearest resource
pub record IsTrueOf (s : SchemaValue) (resource x : Item) (c : Constraint) : Type 0 where
  pub expression : Expression
  pub read : expression_of c ≡ Some expression
  pub holds : IsTrue (is_true (record { schema = s; resource = resource; context = x }) expression x)

-- or it isn't read, and a user vouches for it by one of these texts
abbrev pub IsTrueOrGiven : SchemaValue → List Text → Item → Item → Constraint → Type 0
IsTrueOrGiven s texts resource x c = IsTrueOf s resource x c ⊎ ((expression_of c ≡ None) × IsTrue (is_given texts (unread_constraint c)))

-- Of each pair that is needed, that is so of each constraint that must hold, be it the node's own or one of the node that this one refers
-- to for its content. Of an item and the nearest resource at or around it is told what is so.
abbrev pub OfConstraints : SchemaValue → Text → Tree → (Item → Item → Constraint → Type 0) → Type 0
OfConstraints s profile t IsSo =
    (node : NodeRef) (outermost : Item) → root_of s profile ≡ Some node → Types s t outermost
    → (place : Place) (resource x : Item) (n k : NodeRef) → Needed s outermost node place resource x n → (k ≡ n) ⊎ (target s n ≡ Some k)
    → (position : ℕ) (c : Constraint) → constraint_at s k position ≡ Some c → IsTrue (must_hold c) → IsSo resource x c

-- each is true
abbrev pub ConstraintsHold : SchemaValue → Text → Tree → Type 0
ConstraintsHold s profile t = OfConstraints s profile t (IsTrueOf s)

-- each is true, or a user vouches for it
abbrev pub ConstraintsHoldAsGiven : SchemaValue → List Text → Text → Tree → Type 0
ConstraintsHoldAsGiven s texts profile t = OfConstraints s profile t (IsTrueOrGiven s texts)
