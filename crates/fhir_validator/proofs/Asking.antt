-- What a node asks: where it asks for a root, it is none itself; and the profiles that its types name are asked for.
use Rattle.std.proofs.Common.{◌≡◌, ◌<◌, ℕ, zero, suc, Bool, true, false, List, [], ◌∷◌, ◌++◌, map, length, refl, sym, ap, IsTrue, Option, Some, None, cond, subst, arith}
use Rattle.std.specs.List.{flat_map, slice_index_or, AllByRecursion, Contains}
use Rattle.std.specs.Option.{option_map_or}
use Rattle.std.proofs.lemmas.List.Elements.{All-from_recursion, All-contains, Contains-append_left, Contains-append_right}
use Rattle.fhir_json.specs.Tree.{Text}
use Rattle.fhir_elements.specs.TypeEntry.{TypeEntry}
use Rattle.fhir_nodes.specs.declared.node.NodeRef.{NodeRef}
use Rattle.fhir_schema.specs.Covers.{covers}
use Rattle.fhir_schema.specs.Schemas.{SchemaValue, is_root_node, type_root, loaded, types as node_types}
use Rattle.fhir_instance.specs.Items.{Item, type_of}
use Rattle.fhir_conformance.specs.Asks.{Ask, types, profile, facet_asks, constraint_asks, own_root, roots_named, entry_roots, profile_asks, kids_asks, root_asks, inner_asks, asks}
use Rattle.fhir_conformance.proofs.ByAsks.{IsOfType, IsOfCanonical, root_are, inner_are, own_root_are, profiles_are}
use Rattle.fhir_validator.specs.Judging.{IsOrdered}

pub are_ordered : (s : SchemaValue) (roots : IsOfType s) (others : IsOfCanonical s) (x : Item) (n : NodeRef) → AllByRecursion (IsOrdered s n) (asks s x n)
are_ordered s roots others x n = by_case (is_root_node s n) refl
  where
    by_case : (b : Bool) → is_root_node s n ≡ b → AllByRecursion (IsOrdered s n) (cond b (root_asks s x n) (inner_asks s x n))
    by_case true is = root_are (IsOrdered s n) (λ rule m. tt) (λ i m. tt) s x n
    by_case false is =
        inner_are (IsOrdered s n) (λ rule m. tt) (λ i m. tt) s x n (is, refl)
        (own_root_are (IsOrdered s n) (type_root s (type_of x)) (λ r e. (is, roots (type_of x) r e)))
        (profiles_are s x (IsOrdered s n) (λ p r e. (is, others p r e)) n)

pub ordered_in : (s : SchemaValue) (roots : IsOfType s) (others : IsOfCanonical s) (x : Item) (n : NodeRef) (ask : Ask) → Contains (asks s x n) ask → IsOrdered s n ask
ordered_in s roots others x n ask h =
    All-contains (IsOrdered s n) (asks s x n) ask (All-from_recursion (IsOrdered s n) (asks s x n) (are_ordered s roots others x n)) h

-- ---- the profiles that types name are asked for

pub contains_mapped : {A B : Type 0} (f : A → B) (xs : List A) (y : A) → Contains xs y → Contains (map f xs) (f y)
contains_mapped f [] y h = absurd (omega (arith, h.1))
contains_mapped f (x ∷ xs) y h = at (contains_mapped f xs y) h.0 h.1 h.2
  where
    at : (Contains xs y → Contains (map f xs) (f y)) → (k : ℕ) → k < length (x ∷ xs) → slice_index_or (x ∷ xs) k y ≡ y → Contains (f x ∷ map f xs) (f y)
    at more zero below is = (0, omega arith, ap f is)
    at more (suc k) below is = let rest = more (k, omega (arith, below), is) in (suc rest.0, omega (arith, rest.1), rest.2)

pub contains_gathered : {A B : Type 0} (f : A → List B) (xs : List A) (y : A) (z : B) → Contains xs y → Contains (f y) z → Contains (flat_map f xs) z
contains_gathered f [] y z h here = absurd (omega (arith, h.1))
contains_gathered f (x ∷ xs) y z h here = at (λ rest. contains_gathered f xs y z rest here) h.0 h.1 h.2
  where
    at : (Contains xs y → Contains (flat_map f xs) z) → (k : ℕ) → k < length (x ∷ xs) → slice_index_or (x ∷ xs) k y ≡ y → Contains (f x ++ flat_map f xs) z
    at more zero below is = Contains-append_left (f x) (flat_map f xs) z (subst (λ x. Contains (f x) z) (sym is) here)
    at more (suc k) below is = Contains-append_right (f x) (flat_map f xs) z (more (k, omega (arith, below), is))

pub contains_first : {A : Type 0} (xs : List A) (x : A) → Contains (x ∷ xs) x
contains_first xs x = (0, omega arith, refl)

-- of an entry that covers the item's type
pub asked_profile : (s : SchemaValue) (x : Item) (n : NodeRef) (e : TypeEntry) (p : Text) (r : NodeRef) → is_root_node s n ≡ false → Contains (node_types s n) e
    → IsTrue (covers s e.code (type_of x)) → Contains e.profiles p → loaded s p ≡ Some r → Contains (asks s x n) (profile r)
asked_profile s x n e p r inner among covered named is =
    let roots : Contains (roots_named s e.profiles) r =
    contains_gathered (λ p. option_map_or (λ r. r ∷ []) (loaded s p) []) e.profiles p r named
    (subst (λ o. Contains (option_map_or (λ r. r ∷ []) o []) r) (sym is) (contains_first [] r)) in
    let here : Contains (entry_roots s x e) r = subst (λ b. Contains (cond b (roots_named s e.profiles) []) r) (sym covered) roots in
    let asked : Contains (profile_asks s x n) (profile r) =
    contains_mapped profile (flat_map (entry_roots s x) (node_types s n)) r (contains_gathered (entry_roots s x) (node_types s n) e r among here) in
    let mine = own_root (type_root s (type_of x)) in
    let others = profile_asks s x n ++ kids_asks s x n in
    subst (λ b. Contains (cond b (root_asks s x n) (inner_asks s x n)) (profile r)) (sym inner)
    (Contains-append_right (types n ∷ facet_asks n) (constraint_asks s n ++ (mine ++ others)) (profile r)
    (Contains-append_right (constraint_asks s n) (mine ++ others) (profile r)
    (Contains-append_right mine others (profile r) (Contains-append_left (profile_asks s x n) (kids_asks s x n) (profile r) asked))))
