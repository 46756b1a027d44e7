-- All that a node asks of an item, put together.
use Rattle.std.proofs.Common.{◌≡◌, ◌+◌, ℕ, Bool, true, false, cond, List, [], ◌∷◌, ◌++◌, map, length, Option, None, Some, refl, sym, ap, ap₂, ◌∙◌, ◌&&◌, ◌||◌, nat_eq, IsTrue, ne_eqb, suc, arith}
use Rattle.std.specs.List.{list_all, list_any, flat_map, slice_get, range_with_len}
use Rattle.std.specs.Option.{option_map_or, option_and_then}
use Rattle.std.proofs.lemmas.List.Folds.{list_all-append, list_all-map}
use Rattle.fhir_json.specs.Bytes.{is_empty}
use Rattle.fhir_elements.specs.Element.{Element}
use Rattle.fhir_elements.specs.TypeEntry.{TypeEntry}
use Rattle.fhir_elements.specs.Constraint.{Constraint}
use Rattle.fhir_nodes.specs.declared.node.NodeRef.{NodeRef}
use Rattle.fhir_schema.specs.Schemas.{SchemaValue, is_root_node, element_at, target, types, type_root}
use Rattle.fhir_schema.specs.Covers.{covers, type_at}
use Rattle.fhir_instance.specs.Items.{Item, type_of}
use Rattle.fhir_facets.specs.Unread.{Meaning}
use Rattle.fhir_conformance.specs.Asks.{Ask, profile, facet_asks, constraint_ask, own_constraint_asks, constraint_asks, kids_asks, own_root, profile_asks, entry_roots, root_asks, inner_asks}
use Rattle.fhir_conformance.specs.Conformance.{Interpretation, Around, meaning_at, resource_at, fixed_at, pattern_at, range_at, length_at, binding_at, constraint_passes, ask_conforms, conforms}
use Rattle.fhir_conformance.proofs.ByAsks.{IsOfType, IsOfCanonical, conforms_to}
use Rattle.conformance_laws.specs.Asked.{meets_values, has_value_of, meets, meets_own, meets_constraints_of, is_of_entry, is_of_types, is_of_own_type, has_children_of}

-- ---- truth values

regroup : (a b c d e rest : Bool) → a && (b && (c && (d && (e && rest)))) ≡ (a && (b && (c && (d && e)))) && rest
regroup true true true true e rest = refl
regroup true true true false e rest = refl
regroup true true false d e rest = refl
regroup true false c d e rest = refl
regroup false b c d e rest = refl

and_true : (b : Bool) → b && true ≡ b
and_true true = refl
and_true false = refl

-- ---- lists

-- a test of places from a start on is one of what stands at them
counted : {A : Type 0} (p : A → Bool) (g : ℕ → Bool) (start : ℕ) (xs : List A) → ((i : ℕ) → g (start + i) ≡ option_map_or p (slice_get xs i) true)
    → list_all g (range_with_len start (length xs)) ≡ list_all p xs
counted p g start [] agree = refl
counted p g start (y ∷ ys) agree =
    let here : start + 0 ≡ start = omega arith in
    ap₂ (λ a b. a && b) (sym (ap g here) ∙ agree 0) (counted p g (start + 1) ys (λ i. behind i))
  where
    behind : (i : ℕ) → g (start + 1 + i) ≡ option_map_or p (slice_get ys i) true
    behind i = let next : start + 1 + i ≡ start + suc i = omega arith in ap g next ∙ agree (suc i)

nothing : (ts : List TypeEntry) → nat_eq (length ts) 0 ≡ is_empty ts
nothing [] = refl
nothing (t ∷ ts) = ne_eqb (length (t ∷ ts)) 0 (λ e. omega (arith, e))

-- ---- what is asked

module _ (s : SchemaValue) (meaning : Interpretation) (around : Around) (x : Item) where
  abbrev holds : Ask → Bool
  holds ask = ask_conforms s meaning around x ask

  abbrev here : Meaning
  here = meaning_at meaning around

  abbrev passes : Constraint → Bool
  passes = constraint_passes s here (resource_at s around x) x

  values : (n : NodeRef) (rest : List Ask) → list_all holds (facet_asks n ++ rest) ≡ (has_value_of s meaning around x n && list_all holds rest)
  values n rest = by (element_at s n)
    where
      by : (o : Option Element)
          → option_map_or (fixed_at x) o true && (option_map_or (pattern_at x) o true && (option_map_or (range_at here x) o true
          && (option_map_or (length_at x) o true && (option_map_or (binding_at s here x) o true && list_all holds rest))))
          ≡ (option_map_or (meets_values s meaning around x) o true && list_all holds rest)
      by None = refl
      by (Some e) = regroup (fixed_at x e) (pattern_at x e) (range_at here x e) (length_at x e) (binding_at s here x e) (list_all holds rest)

  own_constraints : (n : NodeRef) → list_all holds (own_constraint_asks s n) ≡ meets_own s meaning around x n
  own_constraints n =
      list_all-map holds (constraint_ask n) (range_with_len 0 (option_map_or (λ (e : Element). length e.constraints) (element_at s n) 0))
      ∙ by (element_at s n)
    where
      by : (o : Option Element)
          → list_all (λ i. option_map_or passes (option_and_then (λ (e : Element). slice_get e.constraints i) o) true)
          (range_with_len 0 (option_map_or (λ (e : Element). length e.constraints) o 0))
          ≡ option_map_or (λ (e : Element). list_all (meets s meaning around x) e.constraints) o true
      by None = refl
      by (Some e) =
          counted passes (λ i. option_map_or passes (slice_get e.constraints i) true) 0 e.constraints
          (λ i. let same : 0 + i ≡ i = omega arith in ap (λ k. option_map_or passes (slice_get e.constraints k) true) same)

  all_constraints : (n : NodeRef) → list_all holds (constraint_asks s n) ≡ meets_constraints_of s meaning around x n
  all_constraints n =
      list_all-append holds (own_constraint_asks s n) (option_map_or (own_constraint_asks s) (target s n) [])
      ∙ ap₂ (λ a b. a && b) (own_constraints n) (by (target s n))
    where
      by : (o : Option NodeRef) → list_all holds (option_map_or (own_constraint_asks s) o []) ≡ option_map_or (meets_own s meaning around x) o true
      by None = refl
      by (Some k) = own_constraints k

  own_type : (o : Option NodeRef) → list_all holds (own_root o) ≡ option_map_or (conforms s meaning around x) o true
  own_type None = refl
  own_type (Some r) = and_true (conforms s meaning around x r)

  -- whether the item conforms to a profile is asked by the types alone
  profiles_pass : (rs : List NodeRef) → list_all holds (map profile rs) ≡ true
  profiles_pass [] = refl
  profiles_pass (r ∷ rs) = profiles_pass rs

  module _ (roots : IsOfType s) (others : IsOfCanonical s) where
    pub at_root : (n : NodeRef) → IsTrue (is_root_node s n)
        → conforms s meaning around x n
        ≡ (covers s (type_at s n) (type_of x) && (has_value_of s meaning around x n && (meets_constraints_of s meaning around x n && has_children_of s meaning around x n)))
    at_root n is =
        conforms_to s roots others meaning around x n
        ∙ ap (λ b. list_all holds (cond b (root_asks s x n) (inner_asks s x n))) is
        ∙ ap (λ b. covers s (type_at s n) (type_of x) && b)
        (values n (constraint_asks s n ++ kids_asks s x n)
        ∙ ap (λ b. has_value_of s meaning around x n && b)
        (list_all-append holds (constraint_asks s n) (kids_asks s x n)
        ∙ ap (λ b. b && has_children_of s meaning around x n) (all_constraints n)))

    pub at_element : (n : NodeRef) → is_root_node s n ≡ false
        → conforms s meaning around x n
        ≡ (is_of_types s meaning around x n && (has_value_of s meaning around x n && (meets_constraints_of s meaning around x n && (is_of_own_type s meaning around x && has_children_of s meaning around x n))))
    at_element n is =
        let profiles = profile_asks s x n in
        let kids = kids_asks s x n in
        let own = own_root (type_root s (type_of x)) in
        conforms_to s roots others meaning around x n
        ∙ ap (λ b. list_all holds (cond b (root_asks s x n) (inner_asks s x n))) is
        ∙ ap₂ (λ a b. a && b)
        (ap (λ b. b || list_any (is_of_entry s meaning around x) (types s n)) (nothing (types s n)))
        (values n (constraint_asks s n ++ (own ++ (profiles ++ kids)))
        ∙ ap (λ b. has_value_of s meaning around x n && b)
        (list_all-append holds (constraint_asks s n) (own ++ (profiles ++ kids))
        ∙ ap₂ (λ a b. a && b) (all_constraints n)
        (list_all-append holds own (profiles ++ kids)
        ∙ ap₂ (λ a b. a && b) (own_type (type_root s (type_of x)))
        (list_all-append holds profiles kids ∙ ap (λ b. b && list_all holds kids) (passing n)))))
      where
        passing : (n : NodeRef) → list_all holds (profile_asks s x n) ≡ true
        passing n = profiles_pass (flat_map (entry_roots s x) (types s n))
