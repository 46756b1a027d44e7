-- What a node asks: an item conforms where it conforms to all that is asked, and a root is asked for by no root.
use Rattle.std.proofs.Common.{◌≡◌, ◌+◌, ℕ, zero, suc, Bool, true, false, List, [], ◌∷◌, ◌++◌, get_or, refl, sym, ap, ◌∙◌, ◌&&◌, ◌||◌, IsTrue, Option, Some, None, cond, arith}
use Rattle.std.specs.List.{flat_map, list_all, list_any, AllByRecursion}
use Rattle.std.specs.Option.{option_map_or}
use Rattle.fhir_json.specs.Tree.{Text}
use Rattle.fhir_json.specs.Bytes.{is_empty}
use Rattle.fhir_elements.specs.TypeEntry.{TypeEntry}
use Rattle.fhir_nodes.specs.declared.node.NodeRef.{NodeRef}
use Rattle.fhir_schema.specs.Covers.{covers}
use Rattle.fhir_schema.specs.Schemas.{SchemaValue, is_root_node, type_root, loaded, types as node_types}
use Rattle.fhir_instance.specs.Items.{Item, item, Kids, no_kids, kid, type_of}
use Rattle.fhir_facets.specs.Unread.{Meaning}
use Rattle.fhir_conformance.specs.Positions.{kid_at}
use Rattle.fhir_conformance.specs.Asks.{ElementRuleName, Ask, own, types, profile, root, child, facet_asks, constraint_asks, own_root, roots_named, entry_roots, profile_asks, kids_asks, root_asks, inner_asks, asks}
use Rattle.fhir_conformance.specs.Asks.{root_type, fixed, pattern, range, length_limit, binding, constraint}
use Rattle.fhir_conformance.specs.Conformance.{Interpretation, Around, meaning_at, resource_at, inside, below, profile_holds, profiles_hold, entry_allows, entry_holds, types_hold, is_untyped, ask_holds, ask_conforms, root_holds, conforms, kid_tests}
use Rattle.fhir_conformance.proofs.Lists.{all_same, all_of_each, all_join, all_gathered, all_mapped}
use Rattle.fhir_conformance.proofs.Asked.{of_kids, of_constraints}

-- ---- lists

list_any_alike : {A : Type 0} (p q : A → Bool) → ((x : A) → p x ≡ q x) → (xs : List A) → list_any p xs ≡ list_any q xs
list_any_alike p q each [] = refl
list_any_alike p q each (x ∷ xs) = λ i. each x i || list_any_alike p q each xs i

-- ---- asks for roots

module _ (P : Ask → Type 0) (of_own : (rule : ElementRuleName) (n : NodeRef) → P (own rule n)) (of_child : (i : ℕ) (n : NodeRef) → P (child i n)) (s : SchemaValue) (x : Item) where
  kids_are : (n : NodeRef) → AllByRecursion P (kids_asks s x n)
  kids_are n = of_kids P (λ rule m is. of_own rule m) of_child s x n

  facets_are : (n : NodeRef) → AllByRecursion P (facet_asks n)
  facets_are n = (of_own fixed n, (of_own pattern n, (of_own range n, (of_own length_limit n, (of_own binding n, tt)))))

  constraints_are : (n : NodeRef) → AllByRecursion P (constraint_asks s n)
  constraints_are n = of_constraints P s n (λ position. of_own (constraint position) n) (λ t position is. of_own (constraint position) t)

  pub root_are : (n : NodeRef) → AllByRecursion P (root_asks s x n)
  root_are n = (of_own root_type n, all_join P (facet_asks n) (constraint_asks s n ++ kids_asks s x n) (facets_are n) (all_join P (constraint_asks s n) (kids_asks s x n) (constraints_are n) (kids_are n)))

  pub inner_are : (n : NodeRef) → P (types n) → AllByRecursion P (own_root (type_root s (type_of x))) → AllByRecursion P (profile_asks s x n) → AllByRecursion P (inner_asks s x n)
  inner_are n of_types of_root of_profiles =
      let others = profile_asks s x n ++ kids_asks s x n in
      let roots = own_root (type_root s (type_of x)) in (
        of_types,
        all_join P (facet_asks n) (constraint_asks s n ++ (roots ++ others)) (facets_are n)
            (all_join P (constraint_asks s n) (roots ++ others) (constraints_are n)
            (all_join P roots others of_root (all_join P (profile_asks s x n) (kids_asks s x n) of_profiles (kids_are n)))),
      )

pub own_root_are : (P : Ask → Type 0) (o : Option NodeRef) → ((r : NodeRef) → o ≡ Some r → P (root r)) → AllByRecursion P (own_root o)
own_root_are P None each = tt
own_root_are P (Some r) each = (each r refl, tt)

-- ---- profiles

module _ (s : SchemaValue) (x : Item) where
  one_root : (P : NodeRef → Type 0) (o : Option NodeRef) → ((r : NodeRef) → o ≡ Some r → P r) → AllByRecursion P (option_map_or (λ r. r ∷ []) o [])
  one_root P None each = tt
  one_root P (Some r) each = (each r refl, tt)

  named_roots : (P : NodeRef → Type 0) → ((p : Text) (r : NodeRef) → loaded s p ≡ Some r → P r) → (e : TypeEntry) → (b : Bool)
      → AllByRecursion P (cond b (roots_named s e.profiles) [])
  named_roots P each e true =
      all_gathered P (λ p. option_map_or (λ r. r ∷ []) (loaded s p) []) e.profiles
      (all_of_each (λ p. AllByRecursion P (option_map_or (λ r. r ∷ []) (loaded s p) [])) (λ p. one_root P (loaded s p) (each p)) e.profiles)
  named_roots P each e false = tt

  pub profiles_are : (P : Ask → Type 0) → ((p : Text) (r : NodeRef) → loaded s p ≡ Some r → P (profile r)) → (n : NodeRef) → AllByRecursion P (profile_asks s x n)
  profiles_are P each n =
      all_mapped P profile (flat_map (entry_roots s x) (node_types s n))
      (all_gathered (λ r. P (profile r)) (entry_roots s x) (node_types s n)
      (all_of_each (λ e. AllByRecursion (λ r. P (profile r)) (entry_roots s x e))
      (λ e. named_roots (λ r. P (profile r)) each e (covers s e.code (type_of x))) (node_types s n)))

abbrev pub IsOfType : SchemaValue → Type 0
IsOfType s = (code : List ℕ) (n : NodeRef) → type_root s code ≡ Some n → IsTrue (is_root_node s n)

abbrev pub IsOfCanonical : SchemaValue → Type 0
IsOfCanonical s = (canonical : List ℕ) (n : NodeRef) → loaded s canonical ≡ Some n → IsTrue (is_root_node s n)

-- ---- conformance by asks

-- types hold alike by roots that agree on those of profiles
module _ (s : SchemaValue) (m : Meaning) (some others : NodeRef → Bool) (x : Item) (alike : (p : Text) (r : NodeRef) → loaded s p ≡ Some r → some r ≡ others r) where
  profile_alike : (p : Text) → profile_holds s m some x p ≡ profile_holds s m others x p
  profile_alike p = by_case _ (loaded s p) (alike p)
    where
      by_case : (b : Bool) (o : Option NodeRef) → ((r : NodeRef) → o ≡ Some r → some r ≡ others r) → option_map_or some o b ≡ option_map_or others o b
      by_case b None each = refl
      by_case b (Some r) each = each r refl

  profiles_alike : (ps : List Text) → profiles_hold s m some x ps ≡ profiles_hold s m others x ps
  profiles_alike ps = ap (λ b. is_empty ps || b) (list_any_alike (profile_holds s m some x) (profile_holds s m others x) profile_alike ps)

  entry_alike : (e : TypeEntry) → entry_holds s m some x e ≡ entry_holds s m others x e
  entry_alike e = ap (λ b. entry_allows s m x e && b) (profiles_alike e.profiles)

  types_alike : (n : NodeRef) → types_hold s m some x n ≡ types_hold s m others x n
  types_alike n = ap (λ b. is_untyped s n || b) (list_any_alike (entry_holds s m some x) (entry_holds s m others x) entry_alike (node_types s n))

module _ (s : SchemaValue) (roots : IsOfType s) (others : IsOfCanonical s) (meaning : Interpretation) (around : Around) where
  -- an item conforms to a root where all holds that the root asks, whatever roots are taken to
  of_root : (type : List ℕ) (json : _) (kids : _) (r : NodeRef) → IsTrue (is_root_node s r) → (any : NodeRef → Bool)
      → conforms s meaning around (item type json kids) r
      ≡ list_all (ask_holds s (meaning_at meaning around) (resource_at s around (item type json kids)) (item type json kids) (kid_tests s meaning (inside s around (item type json kids)) 0 kids) any) (root_asks s (item type json kids) r)
  of_root type json kids r is any =
      let x = item type json kids in
      let tests = kid_tests s meaning (inside s around x) 0 kids in
      let m = meaning_at meaning around in
      let resource = resource_at s around x in
      ap (λ b. cond b (root_holds s m resource x tests r) (list_all (ask_holds s m resource x tests (root_holds s m resource x tests)) (inner_asks s x r))) is
      ∙ all_same (ask_holds s m resource x tests (λ r. true)) (ask_holds s m resource x tests any) (root_asks s x r)
      (root_are (λ ask. ask_holds s m resource x tests (λ r. true) ask ≡ ask_holds s m resource x tests any ask) (λ rule n. refl) (λ i n. refl) s x r)

  pub conforms_to : (x : Item) (n : NodeRef) → conforms s meaning around x n ≡ list_all (ask_conforms s meaning around x) (asks s x n)
  conforms_to (item type json kids) n = by_case (is_root_node s n) refl
    where
      by_case : (b : Bool) → is_root_node s n ≡ b → conforms s meaning around (item type json kids) n
          ≡ list_all (ask_conforms s meaning around (item type json kids)) (cond b (root_asks s (item type json kids) n) (inner_asks s (item type json kids) n))
      by_case true is = of_root type json kids n is (conforms s meaning around (item type json kids))
      by_case false is =
          let x = item type json kids in
          let tests = kid_tests s meaning (inside s around x) 0 kids in
          let m = meaning_at meaning around in
          let resource = resource_at s around x in
          let by_roots = root_holds s m resource x tests in
          let same : (r : NodeRef) → IsTrue (is_root_node s r) → by_roots r ≡ conforms s meaning around x r = λ r e. sym (of_root type json kids r e (λ r. true)) in
          ap (λ b. cond b (root_holds s m resource x tests n) (list_all (ask_holds s m resource x tests by_roots) (inner_asks s x n))) is
          ∙ all_same (ask_holds s m resource x tests by_roots) (ask_conforms s meaning around x) (inner_asks s x n)
          (inner_are (λ ask. ask_holds s m resource x tests by_roots ask ≡ ask_conforms s meaning around x ask) (λ rule n. refl) (λ i n. refl) s x n
          (types_alike s m by_roots (conforms s meaning around x) x (λ p r e. same r (others p r e)) n)
          (own_root_are (λ ask. ask_holds s m resource x tests by_roots ask ≡ ask_conforms s meaning around x ask) (type_root s (type_of x))
          (λ r e. same r (roots (type_of x) r e)))
          (profiles_are s x (λ ask. ask_holds s m resource x tests by_roots ask ≡ ask_conforms s meaning around x ask) (λ p r e. refl) n))

-- ---- the test of a child

pub test_at : (s : SchemaValue) (meaning : Interpretation) (around : Around) (p : ℕ) (ks : Kids) (i : ℕ) (n : NodeRef)
    → get_or (kid_tests s meaning around p ks) i (λ n. true) n ≡ option_map_or (λ y. conforms s meaning (below around (p + i)) y n) (kid_at ks i) true
test_at s meaning around p no_kids i n = refl
test_at s meaning around p (kid name x ks) zero n = ap (λ q. conforms s meaning (below around q) x n) (omega arith)
test_at s meaning around p (kid name x ks) (suc i) n =
    let e : suc p + i ≡ p + suc i = omega arith in
    test_at s meaning around (suc p) ks i n ∙ ap (λ q. option_map_or (λ y. conforms s meaning (below around q) y n) (kid_at ks i) true) e
