-- What a tree holds doesn't depend on the levels that are counted down, where they are as many as the tree's.
use Rattle.std.proofs.Common.{◌≡◌, ℕ, zero, suc, ◌≤◌, Bool, true, false, cond, leb, List, [], ◌∷◌, ◌++◌, Option, None, Some, refl, sym, ap, ◌∙◌, inl, inr}
use Rattle.std.proofs.Common.{arith}
use Rattle.std.specs.Prelude.{codes}
use Rattle.std.specs.List.{AllByRecursion, flat_map}
use Rattle.std.specs.Option.{option_map_or}
use Rattle.std.specs.Str.{bytes_eq}
use Rattle.std.proofs.lemmas.Bool.{cases_Bool, leb-true, leb-false}
use Rattle.fhir_json.specs.Tree.{Text, Tree, null, boolean, number, string, array, object, Items, no_items, item, Members, no_members, member, list_of}
use Rattle.fhir_json.specs.Fields.{value_named, field, as_items, items_in}
use Rattle.fhir_json.specs.Sound.{depth, items_depth, members_depth, larger, max_depth}
use Rattle.fhir_package.specs.Packing.{Definition, is_bundle, held_within, in_entry, definitions_in}
use Rattle.fhir_package.specs.Found.{itself, in_resource}
use Rattle.fhir_package.proofs.Held.{held_entries, held_other}

-- ---- levels

first_within : (m n d : ℕ) → larger m n ≤ d → m ≤ d
first_within m n d h =
    elim (cases_Bool (leb m n)) [
      | inl is ↦ let most : n ≤ d = rw is at h in omega (arith, leb-true m n is)
      | inr isnt ↦ rw isnt at h
    ]

second_within : (m n d : ℕ) → larger m n ≤ d → n ≤ d
second_within m n d h =
    elim (cases_Bool (leb m n)) [
      | inl is ↦ rw is at h
      | inr isnt ↦ let most : m ≤ d = rw isnt at h in omega (arith, leb-false m n isnt)
    ]

-- no more levels than d, if there is a tree
abbrev Within : ℕ → Option Tree → Type 0
Within d None = Unit {0}
Within d (Some t) = depth t ≤ d

abbrev AllWithin : ℕ → List Tree → Type 0
AllWithin d ts = AllByRecursion (λ t. depth t ≤ d) ts

named_within : (d : ℕ) (name : Text) (ms : Members) → members_depth ms ≤ d → Within d (value_named name ms)
named_within d name no_members h = tt
named_within d name (member n t ms) h =
    by (bytes_eq name n) (first_within (depth t) (members_depth ms) d h) (named_within d name ms (second_within (depth t) (members_depth ms) d h))
  where
    by : (b : Bool) → depth t ≤ d → Within d (value_named name ms) → Within d (cond b (Some t) (value_named name ms))
    by true first rest = first
    by false first rest = rest

field_within : (d : ℕ) (name : Text) (t : Tree) → depth t ≤ suc d → Within d (field name t)
field_within d name null h = tt
field_within d name (boolean b) h = tt
field_within d name (number n) h = tt
field_within d name (string s) h = tt
field_within d name (array ts) h = tt
field_within d name (object ms) h = named_within d name ms (omega arith)

list_within : (d : ℕ) (ts : Items) → items_depth ts ≤ d → AllWithin d (list_of ts)
list_within d no_items h = tt
list_within d (item t ts) h = (first_within (depth t) (items_depth ts) d h, list_within d ts (second_within (depth t) (items_depth ts) d h))

as_items_within : (d : ℕ) (t : Tree) → depth t ≤ d → AllWithin d (list_of (as_items t))
as_items_within d null h = tt
as_items_within d (boolean b) h = tt
as_items_within d (number n) h = tt
as_items_within d (string s) h = tt
as_items_within d (array ts) h = list_within d ts (omega arith)
as_items_within d (object ms) h = tt

items_in_within : (d : ℕ) (name : Text) (t : Tree) → depth t ≤ suc d → AllWithin d (items_in name t)
items_in_within d name t h = by (field name t) (field_within d name t h)
  where
    by : (r : Option Tree) → Within d r → AllWithin d (option_map_or (λ v. list_of (as_items v)) r [])
    by None h = tt
    by (Some v) h = as_items_within d v h

-- ---- what is held within more levels

-- a tree of no levels holds nothing
scalar_holds : (n : ℕ) (t : Tree) → depth t ≤ 0 → held_within n t ≡ []
unfolding held_within
scalar_holds zero t h = refl
scalar_holds (suc n) null h = refl
scalar_holds (suc n) (boolean b) h = refl
scalar_holds (suc n) (number m) h = refl
scalar_holds (suc n) (string s) h = refl
scalar_holds (suc n) (array ts) h = absurd (omega arith)
scalar_holds (suc n) (object ms) h = absurd (omega arith)

abbrev Same : ℕ → ℕ → Type 0
Same n m = (t : Tree) → depth t ≤ n → depth t ≤ m → held_within n t ≡ held_within m t

entry_same : (n m : ℕ) → Same n m → (e : Tree) → depth e ≤ n → depth e ≤ m → in_entry n e ≡ in_entry m e
entry_same n m same e h k =
    by (field (codes "resource") e) (field_within n (codes "resource") e (omega arith)) (field_within m (codes "resource") e (omega arith))
  where
    by : (r : Option Tree) → Within n r → Within m r → option_map_or (held_within n) r [] ≡ option_map_or (held_within m) r []
    by None h k = refl
    by (Some t) h k = same t h k

entries_same : (n m : ℕ) → Same n m → (es : List Tree) → AllWithin n es → AllWithin m es → flat_map (in_entry n) es ≡ flat_map (in_entry m) es
entries_same n m same [] h k = refl
entries_same n m same (e ∷ es) h k =
    ap (λ (ds : List Definition). ds ++ flat_map (in_entry n) es) (entry_same n m same e h.0 k.0)
    ∙ ap (λ (ds : List Definition). in_entry m e ++ ds) (entries_same n m same es h.1 k.1)

held_same : (n m : ℕ) → Same n m
held_same zero m t h k = scalar_holds zero t h ∙ sym (scalar_holds m t h)
held_same (suc n) zero t h k = scalar_holds (suc n) t k ∙ sym (scalar_holds zero t k)
held_same (suc n) (suc m) t h k = by (is_bundle t) refl (held_same n m)
  where
    es : List Tree
    es = items_in (codes "entry") t

    by : (b : Bool) → is_bundle t ≡ b → Same n m → held_within (suc n) t ≡ held_within (suc m) t
    by true is same =
        held_entries (suc n) n t es refl is refl
        ∙ entries_same n m same es (items_in_within n (codes "entry") t h) (items_in_within m (codes "entry") t k)
        ∙ sym (held_entries (suc m) m t es refl is refl)
    by false isnt same = held_other (suc n) n t refl isnt ∙ sym (held_other (suc m) m t refl isnt)

-- a Bundle holds what its entries hold within as many levels
bundle_holds : (n : ℕ) (t : Tree) → depth t ≤ suc n → is_bundle t ≡ true → held_within (suc n) t ≡ flat_map (in_entry (suc n)) (items_in (codes "entry") t)
bundle_holds n t h is =
    held_entries (suc n) n t (items_in (codes "entry") t) refl is refl
    ∙ entries_same n (suc n) (held_same n (suc n)) (items_in (codes "entry") t) inner (more (items_in (codes "entry") t) inner)
  where
    inner : AllWithin n (items_in (codes "entry") t)
    inner = items_in_within n (codes "entry") t h

    more : (es : List Tree) → AllWithin n es → AllWithin (suc n) es
    more [] h = tt
    more (e ∷ es) h = (omega (arith, h.0), more es h.1)

pub bundle_lem : (t : Tree) → depth t ≤ max_depth → is_bundle t ≡ true → definitions_in t ≡ flat_map in_resource (items_in (codes "entry") t)
unfolding definitions_in
bundle_lem t h is = bundle_holds 127 t h is

pub other_lem : (t : Tree) → is_bundle t ≡ false → definitions_in t ≡ itself t
unfolding definitions_in
other_lem t isnt = held_other 128 127 t refl isnt
