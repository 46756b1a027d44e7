-- What discriminators find.
use Rattle.std.proofs.Common.{◌≡◌, ◌↔◌, Bool, true, false, cond, not, List, [], ◌∷◌, ◌++◌, Option, None, Some, codes, refl, sym, ap, subst, ◌∙◌, inl, inr, ◌⊎◌, ◌&&◌, ◌||◌, IsTrue}
use Rattle.std.specs.List.{list_any, list_all, Contains}
use Rattle.std.specs.Option.{option_map_or}
use Rattle.std.specs.Str.{bytes_eq}
use Rattle.std.proofs.lemmas.Bool.{or_cases, or_left, or_right, false≢true}
use Rattle.std.proofs.lemmas.Slice.Eq.{bytes_eq-Decides}
use Rattle.fhir_json.specs.Tree.{Text, Tree}
use Rattle.fhir_json.specs.Bytes.{is_empty}
use Rattle.fhir_nodes.specs.declared.node.NodeRef.{NodeRef}
use Rattle.fhir_nodes.specs.Slots.{Slot}
use Rattle.fhir_schema.specs.Schemas.{SchemaValue, slices}
use Rattle.fhir_schema.specs.Covers.{covers}
use Rattle.fhir_instance.specs.Items.{Item, Kids, no_kids, kid, Named, type_of, json_of, kids_of}
use Rattle.fhir_slicing.specs.Belonging.{is_called, called, items_at, is_typed, is_in, is_apart}
use Rattle.conformance_laws.specs.Paths.{children_in, Calls, Leads}
use Rattle.conformance_laws.proofs.Lists.{has_none, has_first, has_later, has_cases, found, passes, each, all, gathered, scattered}

-- ---- lists

pub one_of : {A : Type 0} (test : A → Bool) (xs : List A) → IsTrue (list_any test xs) ↔ ((x : A) × (Contains xs x) × IsTrue (test x))
one_of test xs = (found test xs, λ some. passes test xs some.0 some.1 some.2)

pub each_of : {A : Type 0} (test : A → Bool) (xs : List A) → IsTrue (list_all test xs) ↔ ((x : A) → Contains xs x → IsTrue (test x))
each_of test xs = (each test xs, all test xs)

pub any : (xs : List Item) → IsTrue (not (is_empty xs)) ↔ ((x : Item) × Contains xs x)
any [] = (λ h. absurd (false≢true h), λ some. absurd (has_none some.0 some.1))
any (x ∷ xs) = (λ h. (x, has_first x x xs refl), λ some. refl)

pub none : (xs : List Item) → IsTrue (is_empty xs) ↔ (xs ≡ [])
none [] = (λ h. refl, λ h. refl)
none (x ∷ xs) = (λ h. absurd (false≢true h), λ h. ap is_empty h)

-- ---- values

-- one that has a value which passes
pub one_valued : (test : Tree → Bool) (xs : List Item)
    → IsTrue (list_any (λ x. option_map_or test (json_of x) false) xs) ↔ ((x : Item) × (json : Tree) × (Contains xs x) × (json_of x ≡ Some json) × IsTrue (test json))
one_valued test xs = (there, back)
  where
    valued : (x : Item) (o : Option Tree) → json_of x ≡ o → IsTrue (option_map_or test o false) → (json : Tree) × (json_of x ≡ Some json) × IsTrue (test json)
    valued x None is h = absurd (false≢true h)
    valued x (Some json) is h = (json, is, h)

    there : IsTrue (list_any (λ x. option_map_or test (json_of x) false) xs) → (x : Item) × (json : Tree) × (Contains xs x) × (json_of x ≡ Some json) × IsTrue (test json)
    there h =
        let it = found (λ x. option_map_or test (json_of x) false) xs h in
        let value = valued it.0 (json_of it.0) refl it.2 in
        (it.0, value.0, it.1, value.1, value.2)

    back : (x : Item) × (json : Tree) × (Contains xs x) × (json_of x ≡ Some json) × IsTrue (test json) → IsTrue (list_any (λ x. option_map_or test (json_of x) false) xs)
    back some = passes (λ x. option_map_or test (json_of x) false) xs some.0 some.2 (ap (λ o. option_map_or test o false) some.3 ∙ some.4)

-- ---- types

pub one_typed : (s : SchemaValue) (types : List Text) (xs : List Item)
    → IsTrue (list_any (is_typed s types) xs) ↔ ((x : Item) × (type : Text) × (Contains xs x) × (Contains types type) × IsTrue (covers s type (type_of x)))
one_typed s types xs = (there, back)
  where
    there : IsTrue (list_any (is_typed s types) xs) → (x : Item) × (type : Text) × (Contains xs x) × (Contains types type) × IsTrue (covers s type (type_of x))
    there h =
        let it = found (is_typed s types) xs h in
        let type = found (λ code. covers s code (type_of it.0)) types it.2 in
        (it.0, type.0, it.1, type.1, type.2)

    back : (x : Item) × (type : Text) × (Contains xs x) × (Contains types type) × IsTrue (covers s type (type_of x)) → IsTrue (list_any (is_typed s types) xs)
    back some = passes (is_typed s types) xs some.0 some.2 (passes (λ code. covers s code (type_of some.0)) types some.1 some.3 some.4)

-- ---- two slices

differ_or : (a b : Text) (c d : Bool) → IsTrue (bytes_eq a b || not (c && d)) → IsTrue c → IsTrue d → a ≡ b
differ_or a b c d h first second =
    elim (or_cases (bytes_eq a b) (not (c && d)) h) [
      | inl same ↦ (bytes_eq-Decides a b).0 same
      | inr apart ↦ absurd (false≢true (sym (ap (λ z. not (z && d)) first ∙ ap not second) ∙ apart))
    ]

or_differ : (a b : Text) (c d : Bool) → (IsTrue c → IsTrue d → a ≡ b) → IsTrue (bytes_eq a b || not (c && d))
or_differ a b true true same = or_left (bytes_eq a b) (not (true && true)) ((bytes_eq-Decides a b).1 (same refl refl))
or_differ a b true false same = or_right (bytes_eq a b) (not (true && false)) refl
or_differ a b false d same = or_right (bytes_eq a b) (not (false && d)) refl

module _ (s : SchemaValue) (n : NodeRef) (x : Item) where
  -- they have one name, or the item isn't in both
  abbrev pair : Slot → Slot → Bool
  pair one other = bytes_eq one.name other.name || not (is_in s n x one && is_in s n x other)

  abbrev pub HaveOneName : Type 0
  HaveOneName =
      (one other : Slot) → Contains (slices s n) one → Contains (slices s n) other → IsTrue (is_in s n x one) → IsTrue (is_in s n x other)
      → one.name ≡ other.name

  have_one_name : IsTrue (is_apart s n x) → HaveOneName
  have_one_name h one other of_one of_other first second =
      differ_or one.name other.name (is_in s n x one) (is_in s n x other)
      (each (pair one) (slices s n) (each (λ z. list_all (pair z) (slices s n)) (slices s n) h one of_one) other of_other) first second

  are_apart : HaveOneName → IsTrue (is_apart s n x)
  are_apart same =
      all (λ z. list_all (pair z) (slices s n)) (slices s n)
      (λ one of_one.
      all (pair one) (slices s n)
      (λ other of_other. or_differ one.name other.name (is_in s n x one) (is_in s n x other) (same one other of_one of_other)))

  pub one_name : IsTrue (is_apart s n x) ↔ HaveOneName
  one_name = (have_one_name, are_apart)

-- ---- paths

calls : (name element : Text) → IsTrue (is_called name element) → Calls name element
calls name element h =
    elim (or_cases (bytes_eq name element) (bytes_eq (name ++ codes "[x]") element) h) [
      | inl plain ↦ inl ((bytes_eq-Decides name element).0 plain)
      | inr choice ↦ inr ((bytes_eq-Decides (name ++ codes "[x]") element).0 choice)
    ]

is_called_so : (name element : Text) → Calls name element → IsTrue (is_called name element)
is_called_so name element (inl plain) = or_left (bytes_eq name element) (bytes_eq (name ++ codes "[x]") element) ((bytes_eq-Decides name element).1 plain)
is_called_so name element (inr choice) = or_right (bytes_eq name element) (bytes_eq (name ++ codes "[x]") element) ((bytes_eq-Decides (name ++ codes "[x]") element).1 choice)

abbrev under : Text → Item → Named
under name x = (name, x)

abbrev Child : Text → Kids → Item → Type 0
Child name kids z = (element : Text) × (Contains (children_in kids) (element, z)) × Calls name element

later_child : (name element : Text) (x z : Item) (kids : Kids) → Child name kids z → Child name (kid element x kids) z
later_child name element x z kids it = (it.0, has_later (element, x) (it.0, z) (children_in kids) it.1, it.2)

child_called : (name : Text) (kids : Kids) (z : Item) → Contains (called name kids) z → Child name kids z
child_called name no_kids z among = absurd (has_none z among)
child_called name (kid element x kids) z among = by (is_called name element) refl (child_called name kids z) among
  where
    by : (b : Bool) → is_called name element ≡ b → (Contains (called name kids) z → Child name kids z)
        → Contains (cond b (x ∷ called name kids) (called name kids)) z → Child name (kid element x kids) z
    by true is more has =
        elim (has_cases x z (called name kids) has) [
          | inl here ↦ (element, has_first (element, x) (element, z) (children_in kids) (ap (λ (w : Item). (element, w)) here), calls name element is)
          | inr there ↦ later_child name element x z kids (more there)
        ]
    by false is more has = later_child name element x z kids (more has)

called_child : (name : Text) (kids : Kids) (z : Item) → Child name kids z → Contains (called name kids) z
called_child name no_kids z it = absurd (has_none (it.0, z) it.1)
called_child name (kid element x kids) z it =
    by (is_called name element) refl (λ there. called_child name kids z (it.0, there, it.2)) (has_cases (element, x) (it.0, z) (children_in kids) it.1)
  where
    by : (b : Bool) → is_called name element ≡ b → (Contains (children_in kids) (it.0, z) → Contains (called name kids) z)
        → (under element x ≡ under it.0 z) ⊎ Contains (children_in kids) (it.0, z)
        → Contains (cond b (x ∷ called name kids) (called name kids)) z
    by true is more (inl here) = has_first x z (called name kids) (ap (λ (w : Named). w.1) here)
    by true is more (inr there) = has_later x z (called name kids) (more there)
    by false is more (inl here) =
        absurd (false≢true (sym is ∙ is_called_so name element (subst (λ t. Calls name t) (sym (ap (λ (w : Named). w.0) here)) it.2)))
    by false is more (inr there) = more there

leads : (names : List Text) (x y : Item) → Contains (items_at names x) y → Leads names x y
leads [] x y among =
    elim (has_cases x y [] among) [
      | inl here ↦ here
      | inr there ↦ absurd (has_none y there)
    ]
leads (name ∷ names) x y among =
    let step = gathered (items_at names) (called name (kids_of x)) y among in
    let child = child_called name (kids_of x) step.0 step.1 in
    (child.0, step.0, child.1, child.2, leads names step.0 y step.2)

stands : (names : List Text) (x y : Item) → Leads names x y → Contains (items_at names x) y
stands [] x y is = has_first x y [] is
stands (name ∷ names) x y way =
    scattered (items_at names) (called name (kids_of x)) way.1 y (called_child name (kids_of x) way.1 (way.0, way.2, way.3)) (stands names way.1 y way.4)

pub at_end : (names : List Text) (x y : Item) → Contains (items_at names x) y ↔ Leads names x y
at_end names x y = (leads names x y, stands names x y)
