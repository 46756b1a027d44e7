-- Conformance from one meaning to another, down an item.
use Rattle.std.proofs.Common.{◌≡◌, ℕ, suc, zero, ◌+◌, Bool, true, false, List, [], ◌∷◌, ◌++◌, map, Some, get_or, inl, inr, refl, sym, ap, subst, IsTrue, add-zero, zero-add, arith}
use Rattle.std.specs.Prelude.{if◌then◌else◌}
use Rattle.std.specs.List.{Contains, AllByRecursion, list_all, flat_map}
use Rattle.std.proofs.lemmas.Bool.{false≢true}
use Rattle.std.proofs.lemmas.List.Elements.{Contains-append_left, Contains-append_right, Contains-push}
use Rattle.fhir_nodes.specs.declared.node.NodeRef.{NodeRef}
use Rattle.fhir_schema.specs.Schemas.{SchemaValue, is_root_node, type_root, loaded, types as node_types}
use Rattle.fhir_instance.specs.Items.{Item, item, Kids, no_kids, kid, kids_of, type_of}
use Rattle.fhir_facets.specs.Unread.{Meaning}
use Rattle.fhir_conformance.specs.Asks.{root_type, fixed, pattern, range, length_limit, binding, too_few, too_many, too_few_in, too_many_in, apart, in_a_slice, in_order, in_the_rest, constraint}
use Rattle.fhir_conformance.specs.Asks.{Ask, own, types, profile, root, child, facet_asks, constraint_asks, own_root, entry_roots, profile_asks, kids_asks, root_asks, inner_asks, asks}
use Rattle.fhir_conformance.specs.Conformance.{Interpretation, Around, meaning_at, resource_at, inside, below, ask_holds, root_holds, inner_holds, item_holds, conforms, kid_tests}
use Rattle.fhir_conformance.specs.Meeting.{unread_at}
use Rattle.fhir_conformance.specs.Positions.{kid_at}
use Rattle.fhir_conformance.proofs.Lists.{all_step, all_of_each, all_front, all_back}
use Rattle.fhir_conformance.proofs.Carrying.{AreCarried, IsRootStep, types_step, range_step, binding_step, constraint_step, taken_over_step}
use Rattle.fhir_conformance.proofs.Asked.{IsOf, root_asks_are_of, inner_asks_are_of}

-- from a fact of each element to one of each by membership
each_contained : {A : Type 0} (P Q : A → Type 0) (xs : List A) → ((x : A) → Contains xs x → P x → Q x) → AllByRecursion P xs → AllByRecursion Q xs
each_contained P Q [] f each = tt
each_contained P Q (x ∷ xs) f each = (
  f x (Contains-append_left (x ∷ []) xs x (Contains-push [] x)) each.0,
  each_contained P Q xs (λ y has. f y (Contains-append_right (x ∷ []) xs y has)) each.1,
)

module _ (s : SchemaValue) (m m' : Meaning) (resource x : Item) (kids kids' : List (NodeRef → Bool)) (roots roots' : NodeRef → Bool) where
  abbrev IsStep : Ask → Type 0
  IsStep ask = IsTrue (ask_holds s m resource x kids roots ask) → IsTrue (ask_holds s m' resource x kids' roots' ask)

  ask_step : (n : NodeRef) → AreCarried m m' (unread_at s x n) → AllByRecursion (IsRootStep s m m' x roots roots') (flat_map (entry_roots s x) (node_types s n))
      → (all : List Ask)
      → ((r : NodeRef) → Contains all (root r) → type_root s (type_of x) ≡ Some r → IsTrue (roots r) → IsTrue (roots' r))
      → ((i : ℕ) (k : NodeRef) → Contains all (child i k) → IsTrue (get_or kids i (λ n. true) k) → IsTrue (get_or kids' i (λ n. true) k))
      → (ask : Ask) → Contains all ask → IsOf s x n ask → IsStep ask
  ask_step n carried of_profiles all of_root of_child (own root_type k) has is = λ h. h
  ask_step n carried of_profiles all of_root of_child (own fixed k) has is = λ h. h
  ask_step n carried of_profiles all of_root of_child (own pattern k) has is = λ h. h
  ask_step n carried of_profiles all of_root of_child (own range k) has is =
      subst (λ k. IsStep (own range k)) (sym is) (range_step s m m' x n carried)
  ask_step n carried of_profiles all of_root of_child (own length_limit k) has is = λ h. h
  ask_step n carried of_profiles all of_root of_child (own binding k) has is =
      subst (λ k. IsStep (own binding k)) (sym is) (binding_step s m m' x n carried)
  ask_step n carried of_profiles all of_root of_child (own (too_few name) k) has is = λ h. h
  ask_step n carried of_profiles all of_root of_child (own (too_many name) k) has is = λ h. h
  ask_step n carried of_profiles all of_root of_child (own (too_few_in name) k) has is = λ h. h
  ask_step n carried of_profiles all of_root of_child (own (too_many_in name) k) has is = λ h. h
  ask_step n carried of_profiles all of_root of_child (own (apart position) k) has is = λ h. h
  ask_step n carried of_profiles all of_root of_child (own (in_a_slice position) k) has is = λ h. h
  ask_step n carried of_profiles all of_root of_child (own (in_order earlier position) k) has is = λ h. h
  ask_step n carried of_profiles all of_root of_child (own (in_the_rest position) k) has is = λ h. h
  ask_step n carried of_profiles all of_root of_child (own (constraint position) k) has is =
      elim is [
        | inl e ↦ subst (λ k. IsStep (own (constraint position) k)) (sym e) (constraint_step s m m' resource x n position carried)
        | inr e ↦ taken_over_step s m m' resource x n k position e carried
      ]
  ask_step n carried of_profiles all of_root of_child (types k) has is =
      subst (λ k. IsStep (types k)) (sym is) (types_step s m m' x roots roots' n carried of_profiles)
  ask_step n carried of_profiles all of_root of_child (profile r) has is = λ h. h
  ask_step n carried of_profiles all of_root of_child (root r) has is = of_root r has is
  ask_step n carried of_profiles all of_root of_child (child i k) has is = of_child i k has

  pub asks_step : (n : NodeRef) → AreCarried m m' (unread_at s x n) → AllByRecursion (IsRootStep s m m' x roots roots') (flat_map (entry_roots s x) (node_types s n))
      → (all : List Ask) → AllByRecursion (IsOf s x n) all
      → ((r : NodeRef) → Contains all (root r) → type_root s (type_of x) ≡ Some r → IsTrue (roots r) → IsTrue (roots' r))
      → ((i : ℕ) (k : NodeRef) → Contains all (child i k) → IsTrue (get_or kids i (λ n. true) k) → IsTrue (get_or kids' i (λ n. true) k))
      → IsTrue (list_all (ask_holds s m resource x kids roots) all) → IsTrue (list_all (ask_holds s m' resource x kids' roots') all)
  asks_step n carried of_profiles all are_of of_root of_child =
      all_step (ask_holds s m resource x kids roots) (ask_holds s m' resource x kids' roots') all
      (each_contained (IsOf s x n) IsStep all (ask_step n carried of_profiles all of_root of_child) are_of)

moved : (start i : ℕ) → start + suc i ≡ suc start + i
moved start i = omega arith

-- the root of a type, or of a profile, is a root
abbrev pub RootsAreRoots : SchemaValue → Type 0
RootsAreRoots s = (code : List ℕ) (r : NodeRef) → type_root s code ≡ Some r → IsTrue (is_root_node s r)

abbrev pub ProfilesAreRoots : SchemaValue → Type 0
ProfilesAreRoots s = (canonical : List ℕ) (r : NodeRef) → loaded s canonical ≡ Some r → IsTrue (is_root_node s r)

all_unmapped : {A B : Type 0} (P : B → Type 0) (f : A → B) (xs : List A) → AllByRecursion P (map f xs) → AllByRecursion (λ x. P (f x)) xs
all_unmapped P f [] each = tt
all_unmapped P f (x ∷ xs) each = (each.0, all_unmapped P f xs each.1)

-- an item that conforms to a profile before does so after
abbrev IsSafe : (NodeRef → Bool) → (NodeRef → Bool) → Ask → Type 0
IsSafe roots roots' (own rule n) = Unit {0}
IsSafe roots roots' (types n) = Unit {0}
IsSafe roots roots' (profile r) = IsTrue (roots r) → IsTrue (roots' r)
IsSafe roots roots' (root r) = Unit {0}
IsSafe roots roots' (child i n) = Unit {0}

-- what holds of all that a node asks holds of the profiles among that
of_profile_asks : (P : Ask → Type 0) (s : SchemaValue) (x : Item) (n : NodeRef) → AllByRecursion P (inner_asks s x n)
    → AllByRecursion (λ r. P (profile r)) (flat_map (entry_roots s x) (node_types s n))
of_profile_asks P s x n each =
    all_unmapped P profile (flat_map (entry_roots s x) (node_types s n))
    (all_front P (profile_asks s x n) (kids_asks s x n)
    (all_back P (own_root (type_root s (type_of x))) (profile_asks s x n ++ kids_asks s x n)
    (all_back P (constraint_asks s n) (own_root (type_root s (type_of x)) ++ (profile_asks s x n ++ kids_asks s x n))
    (all_back P (types n ∷ facet_asks n) (constraint_asks s n ++ (own_root (type_root s (type_of x)) ++ (profile_asks s x n ++ kids_asks s x n))) each))))

as_root : (s : SchemaValue) (x : Item) (r : NodeRef) → IsTrue (is_root_node s r) → asks s x r ≡ root_asks s x r
as_root s x r is = by_case (is_root_node s r) is
  where
    by_case : (b : Bool) → IsTrue b → (if b then root_asks s x r else inner_asks s x r) ≡ root_asks s x r
    by_case true is = refl
    by_case false is = absurd (false≢true is)

module _ (s : SchemaValue) (are_roots : RootsAreRoots s) (are_profile_roots : ProfilesAreRoots s) (M M' : Interpretation) (Reach : Around → Item → NodeRef → Type 0)
    (carried : (a : Around) (x : Item) (n : NodeRef) → Reach a x n → AreCarried (meaning_at M a) (meaning_at M' a) (unread_at s x n))
    (at_root : (a : Around) (x : Item) (n r : NodeRef) → Reach a x n → Contains (asks s x n) (root r) → Reach a x r)
    (at_profile : (a : Around) (x : Item) (n r : NodeRef) → Reach a x n → Contains (asks s x n) (profile r) → Reach a x r)
    (at_child : (a : Around) (x : Item) (n k : NodeRef) (i : ℕ) (y : Item) → Reach a x n → Contains (asks s x n) (child i k)
    → kid_at (kids_of x) i ≡ Some y → Reach (below (inside s a x) i) y k) where
  -- what is asked of each child is carried
  abbrev OfChildren : List (NodeRef → Bool) → List (NodeRef → Bool) → List Ask → Type 0
  OfChildren kids kids' all = (i : ℕ) (k : NodeRef) → Contains all (child i k) → IsTrue (get_or kids i (λ n. true) k) → IsTrue (get_or kids' i (λ n. true) k)

  item_step : (a : Around) (x : Item) (kids kids' : List (NodeRef → Bool))
      → ((n : NodeRef) → Reach a x n → OfChildren kids kids' (asks s x n))
      → (n : NodeRef) → Reach a x n → IsTrue (item_holds s (meaning_at M a) (resource_at s a x) x kids n)
      → IsTrue (item_holds s (meaning_at M' a) (resource_at s a x) x kids' n)
  item_step a x kids kids' of_children n reach = by_case (is_root_node s n) refl
    where
      root_step : (r : NodeRef) → Reach a x r → asks s x r ≡ root_asks s x r → IsTrue (root_holds s (meaning_at M a) (resource_at s a x) x kids r) → IsTrue (root_holds s (meaning_at M' a) (resource_at s a x) x kids' r)
      root_step r reach is =
          asks_step s (meaning_at M a) (meaning_at M' a) (resource_at s a x) x kids kids' (λ r. true) (λ r. true) r (carried a x r reach)
          (all_of_each (IsRootStep s (meaning_at M a) (meaning_at M' a) x (λ r. true) (λ r. true)) (λ r h. h) (flat_map (entry_roots s x) (node_types s r)))
          (root_asks s x r) (root_asks_are_of s x r)
          (λ r has is h. h) (subst (OfChildren kids kids') is (of_children r reach))

      profile_step : asks s x n ≡ inner_asks s x n → (ask : Ask) → Contains (inner_asks s x n) ask → IsOf s x n ask → IsSafe (root_holds s (meaning_at M a) (resource_at s a x) x kids) (root_holds s (meaning_at M' a) (resource_at s a x) x kids') ask
      profile_step is (own rule k) has of = tt
      profile_step is (types k) has of = tt
      profile_step is (profile r) has of =
          root_step r (at_profile a x n r reach (subst (λ all. Contains all (profile r)) (sym is) has)) (as_root s x r (are_profile_roots of.0 r of.1))
      profile_step is (root r) has of = tt
      profile_step is (child i k) has of = tt

      inner_step : asks s x n ≡ inner_asks s x n → IsTrue (inner_holds s (meaning_at M a) (resource_at s a x) x kids n) → IsTrue (inner_holds s (meaning_at M' a) (resource_at s a x) x kids' n)
      inner_step is =
          asks_step s (meaning_at M a) (meaning_at M' a) (resource_at s a x) x kids kids' (root_holds s (meaning_at M a) (resource_at s a x) x kids) (root_holds s (meaning_at M' a) (resource_at s a x) x kids') n (carried a x n reach)
          (of_profile_asks (IsSafe (root_holds s (meaning_at M a) (resource_at s a x) x kids) (root_holds s (meaning_at M' a) (resource_at s a x) x kids')) s x n
          (each_contained (IsOf s x n) (IsSafe (root_holds s (meaning_at M a) (resource_at s a x) x kids) (root_holds s (meaning_at M' a) (resource_at s a x) x kids'))
          (inner_asks s x n) (profile_step is) (inner_asks_are_of s x n)))
          (inner_asks s x n) (inner_asks_are_of s x n)
          (λ r has of. root_step r (at_root a x n r reach (subst (λ all. Contains all (root r)) (sym is) has)) (as_root s x r (are_roots (type_of x) r of)))
          (subst (OfChildren kids kids') is (of_children n reach))

      by_case : (b : Bool) → is_root_node s n ≡ b
          → IsTrue (if b then root_holds s (meaning_at M a) (resource_at s a x) x kids n else inner_holds s (meaning_at M a) (resource_at s a x) x kids n) → IsTrue (if b then root_holds s (meaning_at M' a) (resource_at s a x) x kids' n else inner_holds s (meaning_at M' a) (resource_at s a x) x kids' n)
      by_case true is = root_step n reach (as_root s x n is)
      by_case false is = inner_step (ap (λ b. if b then root_asks s x n else inner_asks s x n) is)

  mutual
    pub conforms_step : (a : Around) (x : Item) (n : NodeRef) → Reach a x n → IsTrue (conforms s M a x n) → IsTrue (conforms s M' a x n)
    conforms_step a (item type json kids) n reach =
        item_step a (item type json kids)
        (kid_tests s M (inside s a (item type json kids)) 0 kids) (kid_tests s M' (inside s a (item type json kids)) 0 kids)
        (λ n reach i k has.
        kids_step (inside s a (item type json kids)) 0 kids i k
        (λ y is. subst (λ j. Reach (below (inside s a (item type json kids)) j) y k) (sym (zero-add i)) (at_child a (item type json kids) n k i y reach has is)))
        n reach

    kids_step : (a : Around) (start : ℕ) (kids : Kids) (i : ℕ) (k : NodeRef)
        → ((y : Item) → kid_at kids i ≡ Some y → Reach (below a (start + i)) y k)
        → IsTrue (get_or (kid_tests s M a start kids) i (λ n. true) k) → IsTrue (get_or (kid_tests s M' a start kids) i (λ n. true) k)
    kids_step a start no_kids i k reach holds = refl
    kids_step a start (kid name x kids) zero k reach holds =
        conforms_step (below a start) x k (subst (λ j. Reach (below a j) x k) (add-zero start) (reach x refl)) holds
    kids_step a start (kid name x kids) (suc i) k reach holds =
        kids_step a (suc start) kids i k (λ y is. subst (λ j. Reach (below a j) y k) (moved start i) (reach y is)) holds
