-- What an element asks hangs on its unread rules alone, and where they mean more no less holds.
use Rattle.std.proofs.Common.{◌≡◌, ℕ, zero, suc, refl, subst, Bool, true, false, List, [], ◌∷◌, ◌++◌, Option, Some, None, is_some, is_none, inl, inr, ◌&&◌, ◌||◌, IsTrue, not}
use Rattle.std.specs.Prelude.{if◌then◌else◌}
use Rattle.std.specs.Option.{option_map, option_map_or, option_and_then}
use Rattle.std.specs.List.{list_any, flat_map, slice_get, AllByRecursion}
use Rattle.std.specs.Ordering.{is_le, is_ge}
use Rattle.std.specs.declared.cmp.Ordering.{Ordering}
use Rattle.std.proofs.lemmas.Bool.{and_parts, and_from, or_cases, or_left, or_right}
use Rattle.fhir_json.specs.Tree.{Text, Property}
use Rattle.fhir_json.specs.Bytes.{is_empty}
use Rattle.fhir_elements.specs.TypeEntry.{TypeEntry}
use Rattle.fhir_elements.specs.Constraint.{Constraint, must_hold}
use Rattle.fhir_elements.specs.Element.{Element, required_value_set}
use Rattle.fhir_nodes.specs.declared.node.NodeRef.{NodeRef}
use Rattle.fhir_schema.specs.Schemas.{SchemaValue, element_at, target as content_target, types, loaded}
use Rattle.fhir_schema.specs.Covers.{covers, type_at}
use Rattle.fhir_nodes.specs.Expressions.{expression_of}
use Rattle.fhir_schema.specs.Expressions.{constraint_at}
use Rattle.fhir_instance.specs.Items.{Item, type_of}
use Rattle.fhir_fp_syntax.specs.Expression.{Expression}
use Rattle.fhir_fp_eval.specs.Meaning.{is_true}
use Rattle.fhir_facets.specs.declared.scale.Scale.{Scale}
use Rattle.fhir_facets.specs.Unread.{Unread, Meaning, range, target, profile, binding, unread_constraint}
use Rattle.fhir_facets.specs.Seen.{Seen}
use Rattle.fhir_facets.specs.Ranges.{scale_of_bound, scale_holds, bound_holds}
use Rattle.fhir_facets.specs.Targets.{has_targets, referred_type, target_holds, targets_hold}
use Rattle.fhir_facets.specs.Bindings.{binding_to, decision, binding_holds}
use Rattle.fhir_facets.specs.Carried.{bound_unread, range_unread, target_unread, profile_unread, binding_unread, constraint_unread}
use Rattle.fhir_conformance.specs.Conformance.{seen, profile_holds, profiles_hold, entry_holds, types_hold, is_untyped, range_at, binding_at, at_element, constraint_passes}
use Rattle.fhir_conformance.specs.Meeting.{targets_unread, entry_unread, set_unread, constraints_unread, element_unread, unread_at}
use Rattle.fhir_conformance.specs.Asks.{roots_named, entry_roots}
use Rattle.fhir_conformance.proofs.Lists.{any_step, all_weaker, all_front, all_back, all_given}

-- what one meaning says of these rules, the other does
abbrev pub AreCarried : Meaning → Meaning → List Unread → Type 0
AreCarried m m' rules = AllByRecursion (λ u. IsTrue (m u) → IsTrue (m' u)) rules

module _ (s : SchemaValue) (m m' : Meaning) where
  -- the unread rules of a node's types, of its element, and of what it takes over
  of_types : (x : Item) (n : NodeRef) → AreCarried m m' (unread_at s x n) → AreCarried m m' (flat_map (entry_unread s x) (types s n))
  of_types x n each =
      all_front (λ u. IsTrue (m u) → IsTrue (m' u)) (flat_map (entry_unread s x) (types s n))
      (option_map_or (element_unread s x) (element_at s n) [] ++ option_map_or (constraints_unread s) (content_target s n) []) each

  of_node : (x : Item) (n : NodeRef) → AreCarried m m' (unread_at s x n)
      → AreCarried m m' (option_map_or (element_unread s x) (element_at s n) [] ++ option_map_or (constraints_unread s) (content_target s n) [])
  of_node x n each =
      all_back (λ u. IsTrue (m u) → IsTrue (m' u)) (flat_map (entry_unread s x) (types s n))
      (option_map_or (element_unread s x) (element_at s n) [] ++ option_map_or (constraints_unread s) (content_target s n) []) each

  of_element : (x : Item) (n : NodeRef) → AreCarried m m' (unread_at s x n)
      → AreCarried m m' (option_map_or (element_unread s x) (element_at s n) [])
  of_element x n each =
      all_front (λ u. IsTrue (m u) → IsTrue (m' u)) (option_map_or (element_unread s x) (element_at s n) [])
      (option_map_or (constraints_unread s) (content_target s n) []) (of_node x n each)

  of_target : (x : Item) (n : NodeRef) → AreCarried m m' (unread_at s x n)
      → AreCarried m m' (option_map_or (constraints_unread s) (content_target s n) [])
  of_target x n each =
      all_back (λ u. IsTrue (m u) → IsTrue (m' u)) (option_map_or (element_unread s x) (element_at s n) [])
      (option_map_or (constraints_unread s) (content_target s n) []) (of_node x n each)

  target_step : (type canonical : Text) → AreCarried m m' (target_unread s canonical)
      → IsTrue (target_holds s m type canonical) → IsTrue (target_holds s m' type canonical)
  target_step type canonical = by_case (loaded s canonical)
    where
      by_case : (o : Option NodeRef) → AreCarried m m' (if is_none o then target canonical ∷ [] else [])
          → IsTrue (option_map_or (λ c. covers s c type) (option_map (type_at s) o) (m (target canonical)))
          → IsTrue (option_map_or (λ c. covers s c type) (option_map (type_at s) o) (m' (target canonical)))
      by_case None each holds = each.0 holds
      by_case (Some r) each holds = holds

  pub targets_step : (x : Item) (e : TypeEntry) → AreCarried m m' (targets_unread s e)
      → IsTrue (targets_hold s m e (seen x)) → IsTrue (targets_hold s m' e (seen x))
  targets_step x e = by_case (has_targets e) (referred_type (seen x))
    where
      by_case : (has : Bool) (referred : Option Text) → AreCarried m m' (if has then flat_map (target_unread s) e.targets else [])
          → IsTrue (not has || option_map_or (λ type. list_any (target_holds s m type) e.targets) referred true)
          → IsTrue (not has || option_map_or (λ type. list_any (target_holds s m' type) e.targets) referred true)
      by_case false referred each holds = holds
      by_case true None each holds = holds
      by_case true (Some type) each holds =
          any_step (target_holds s m type) (target_holds s m' type) e.targets
          (all_weaker (λ t. AreCarried m m' (target_unread s t)) (λ t. IsTrue (target_holds s m type t) → IsTrue (target_holds s m' type t))
          (target_step type) e.targets (all_given (λ u. IsTrue (m u) → IsTrue (m' u)) (target_unread s) e.targets each))
          holds

  -- where the item conforms to no fewer of the roots that its types' profiles have
  module _ (x : Item) (roots roots' : NodeRef → Bool) where
    abbrev pub IsRootStep : NodeRef → Type 0
    IsRootStep r = IsTrue (roots r) → IsTrue (roots' r)

    profile_step : (p : Text) → AreCarried m m' (profile_unread s p) → AllByRecursion IsRootStep (option_map_or (λ r. r ∷ []) (loaded s p) [])
        → IsTrue (profile_holds s m roots x p) → IsTrue (profile_holds s m' roots' x p)
    profile_step p = by_case (loaded s p)
      where
        by_case : (o : Option NodeRef) → AreCarried m m' (if is_none o then profile p ∷ [] else [])
            → AllByRecursion IsRootStep (option_map_or (λ r. r ∷ []) o [])
            → IsTrue (option_map_or roots o (m (profile p))) → IsTrue (option_map_or roots' o (m' (profile p)))
        by_case None each steps holds = each.0 holds
        by_case (Some r) each steps holds = steps.0 holds

    each_profile_step : (ps : List Text) → AreCarried m m' (flat_map (profile_unread s) ps) → AllByRecursion IsRootStep (roots_named s ps)
        → AllByRecursion (λ p. IsTrue (profile_holds s m roots x p) → IsTrue (profile_holds s m' roots' x p)) ps
    each_profile_step [] each steps = tt
    each_profile_step (p ∷ ps) each steps = (
      profile_step p (all_front (λ u. IsTrue (m u) → IsTrue (m' u)) (profile_unread s p) (flat_map (profile_unread s) ps) each)
          (all_front IsRootStep (option_map_or (λ r. r ∷ []) (loaded s p) []) (roots_named s ps) steps),
      each_profile_step ps (all_back (λ u. IsTrue (m u) → IsTrue (m' u)) (profile_unread s p) (flat_map (profile_unread s) ps) each)
          (all_back IsRootStep (option_map_or (λ r. r ∷ []) (loaded s p) []) (roots_named s ps) steps),
    )

    profiles_step : (ps : List Text) → AreCarried m m' (flat_map (profile_unread s) ps) → AllByRecursion IsRootStep (roots_named s ps)
        → IsTrue (profiles_hold s m roots x ps) → IsTrue (profiles_hold s m' roots' x ps)
    profiles_step ps each steps holds =
        elim (or_cases (is_empty ps) (list_any (profile_holds s m roots x) ps) holds) [
          | inl none ↦ or_left (is_empty ps) (list_any (profile_holds s m' roots' x) ps) none
          | inr some ↦ or_right (is_empty ps) (list_any (profile_holds s m' roots' x) ps)
              (any_step (profile_holds s m roots x) (profile_holds s m' roots' x) ps (each_profile_step ps each steps) some)
        ]

    entry_step : (e : TypeEntry) → AreCarried m m' (entry_unread s x e) → AllByRecursion IsRootStep (entry_roots s x e)
        → IsTrue (entry_holds s m roots x e) → IsTrue (entry_holds s m' roots' x e)
    entry_step e = by_case (covers s e.code (type_of x))
      where
        by_case : (is_covered : Bool)
            → AreCarried m m' (if is_covered then targets_unread s e ++ flat_map (profile_unread s) e.profiles else [])
            → AllByRecursion IsRootStep (if is_covered then roots_named s e.profiles else [])
            → IsTrue ((is_covered && targets_hold s m e (seen x)) && profiles_hold s m roots x e.profiles)
            → IsTrue ((is_covered && targets_hold s m' e (seen x)) && profiles_hold s m' roots' x e.profiles)
        by_case false each steps holds = holds
        by_case true each steps holds =
            let parts = and_parts (targets_hold s m e (seen x)) (profiles_hold s m roots x e.profiles) holds in
            and_from (targets_hold s m' e (seen x)) (profiles_hold s m' roots' x e.profiles)
            (targets_step x e (all_front (λ u. IsTrue (m u) → IsTrue (m' u)) (targets_unread s e) (flat_map (profile_unread s) e.profiles) each) parts.0)
            (profiles_step e.profiles (all_back (λ u. IsTrue (m u) → IsTrue (m' u)) (targets_unread s e) (flat_map (profile_unread s) e.profiles) each) steps parts.1)

    each_entry_step : (es : List TypeEntry) → AreCarried m m' (flat_map (entry_unread s x) es) → AllByRecursion IsRootStep (flat_map (entry_roots s x) es)
        → AllByRecursion (λ e. IsTrue (entry_holds s m roots x e) → IsTrue (entry_holds s m' roots' x e)) es
    each_entry_step [] each steps = tt
    each_entry_step (e ∷ es) each steps = (
      entry_step e (all_front (λ u. IsTrue (m u) → IsTrue (m' u)) (entry_unread s x e) (flat_map (entry_unread s x) es) each)
          (all_front IsRootStep (entry_roots s x e) (flat_map (entry_roots s x) es) steps),
      each_entry_step es (all_back (λ u. IsTrue (m u) → IsTrue (m' u)) (entry_unread s x e) (flat_map (entry_unread s x) es) each)
          (all_back IsRootStep (entry_roots s x e) (flat_map (entry_roots s x) es) steps),
    )

    pub types_step : (n : NodeRef) → AreCarried m m' (unread_at s x n) → AllByRecursion IsRootStep (flat_map (entry_roots s x) (types s n))
        → IsTrue (types_hold s m roots x n) → IsTrue (types_hold s m' roots' x n)
    types_step n each steps holds =
        elim (or_cases (is_untyped s n) (list_any (entry_holds s m roots x) (types s n)) holds) [
          | inl none ↦ or_left (is_untyped s n) (list_any (entry_holds s m' roots' x) (types s n)) none
          | inr some ↦ or_right (is_untyped s n) (list_any (entry_holds s m' roots' x) (types s n))
              (any_step (entry_holds s m roots x) (entry_holds s m' roots' x) (types s n)
              (each_entry_step (types s n) (of_types x n each) steps)
              some)
        ]

  bound_step : (side : Ordering → Bool) (x : Seen) (o : Option Property) → AreCarried m m' (option_map_or bound_unread o [])
      → IsTrue (option_map_or (bound_holds side m x) o true) → IsTrue (option_map_or (bound_holds side m' x) o true)
  bound_step side x None each holds = holds
  bound_step side x (Some p) each holds = by_case (scale_of_bound p.0) each holds
    where
      by_case : (o : Option Scale) → AreCarried m m' (if is_none o then range p.0 p.1 ∷ [] else [])
          → IsTrue (option_map_or (scale_holds side p.1 x) o (m (range p.0 p.1))) → IsTrue (option_map_or (scale_holds side p.1 x) o (m' (range p.0 p.1)))
      by_case None each holds = each.0 holds
      by_case (Some scale) each holds = holds

  pub element_step : (x : Item) (e : Element) → AreCarried m m' (range_unread e) → IsTrue (range_at m x e) → IsTrue (range_at m' x e)
  element_step x e each holds =
      let parts = and_parts (option_map_or (bound_holds is_ge m (seen x)) e.min_value true) (option_map_or (bound_holds is_le m (seen x)) e.max_value true) holds in
      and_from (option_map_or (bound_holds is_ge m' (seen x)) e.min_value true) (option_map_or (bound_holds is_le m' (seen x)) e.max_value true)
      (bound_step is_ge (seen x) e.min_value (all_front (λ u. IsTrue (m u) → IsTrue (m' u)) (option_map_or bound_unread e.min_value []) (option_map_or bound_unread e.max_value []) each) parts.0)
      (bound_step is_le (seen x) e.max_value (all_back (λ u. IsTrue (m u) → IsTrue (m' u)) (option_map_or bound_unread e.min_value []) (option_map_or bound_unread e.max_value []) each) parts.1)

  pub range_step : (x : Item) (n : NodeRef) → AreCarried m m' (unread_at s x n) → IsTrue (at_element s (range_at m x) n) → IsTrue (at_element s (range_at m' x) n)
  range_step x n each =
      by_case (element_at s n) (of_element x n each)
    where
      by_case : (o : Option Element) → AreCarried m m' (option_map_or (element_unread s x) o []) → IsTrue (option_map_or (range_at m x) o true) → IsTrue (option_map_or (range_at m' x) o true)
      by_case None each holds = holds
      by_case (Some e) each holds = element_step x e (all_front (λ u. IsTrue (m u) → IsTrue (m' u)) (range_unread e) (set_unread s x e ++ flat_map constraint_unread e.constraints) each) holds

  decided_step : (x : Seen) (canonical : Text) (o : Option Bool) → AreCarried m m' (if is_some o then [] else binding canonical ∷ [])
      → IsTrue (option_map_or (λ holds. holds) o (m (binding canonical))) → IsTrue (option_map_or (λ holds. holds) o (m' (binding canonical)))
  decided_step x canonical None each holds = each.0 holds
  decided_step x canonical (Some b) each holds = holds

  pub set_step : (x : Item) (o : Option Text) → AreCarried m m' (option_map_or (λ canonical. binding_unread (binding_to s canonical) (seen x)) o [])
      → IsTrue (option_map_or (λ canonical. binding_holds m (binding_to s canonical) (seen x)) o true)
      → IsTrue (option_map_or (λ canonical. binding_holds m' (binding_to s canonical) (seen x)) o true)
  set_step x None each holds = holds
  set_step x (Some canonical) each holds = decided_step (seen x) canonical (decision (binding_to s canonical) (seen x)) each holds

  pub binding_step : (x : Item) (n : NodeRef) → AreCarried m m' (unread_at s x n) → IsTrue (at_element s (binding_at s m x) n)
      → IsTrue (at_element s (binding_at s m' x) n)
  binding_step x n each =
      by_case (element_at s n) (of_element x n each)
    where
      by_case : (o : Option Element) → AreCarried m m' (option_map_or (element_unread s x) o [])
          → IsTrue (option_map_or (binding_at s m x) o true) → IsTrue (option_map_or (binding_at s m' x) o true)
      by_case None each holds = holds
      by_case (Some e) each holds =
          set_step x (required_value_set e)
          (all_front (λ u. IsTrue (m u) → IsTrue (m' u)) (set_unread s x e) (flat_map constraint_unread e.constraints)
          (all_back (λ u. IsTrue (m u) → IsTrue (m' u)) (range_unread e) (set_unread s x e ++ flat_map constraint_unread e.constraints) each))
          holds

  pub constraint_given : (resource x : Item) (c : Constraint) (must : Bool) (e : Option Expression)
      → AreCarried m m' (if must && is_none e then unread_constraint c ∷ [] else [])
      → IsTrue (not must || option_map_or (λ e. is_true (record { schema = s; resource = resource; context = x }) e x) e (m (unread_constraint c)))
      → IsTrue (not must || option_map_or (λ e. is_true (record { schema = s; resource = resource; context = x }) e x) e (m' (unread_constraint c)))
  constraint_given resource x c false e each holds = holds
  constraint_given resource x c true None each holds = each.0 holds
  constraint_given resource x c true (Some e) each holds = holds

  constraint_among : (resource x : Item) (cs : List Constraint) (position : ℕ) → AreCarried m m' (flat_map constraint_unread cs)
      → IsTrue (option_map_or (constraint_passes s m resource x) (slice_get cs position) true)
      → IsTrue (option_map_or (constraint_passes s m' resource x) (slice_get cs position) true)
  constraint_among resource x [] position each holds = refl
  constraint_among resource x (c ∷ cs) zero each holds =
      constraint_given resource x c (must_hold c) (expression_of c)
      (all_front (λ u. IsTrue (m u) → IsTrue (m' u)) (constraint_unread c) (flat_map constraint_unread cs) each) holds
  constraint_among resource x (c ∷ cs) (suc position) each holds =
      constraint_among resource x cs position
      (all_back (λ u. IsTrue (m u) → IsTrue (m' u)) (constraint_unread c) (flat_map constraint_unread cs) each) holds

  pub constraint_step : (resource x : Item) (n : NodeRef) (position : ℕ) → AreCarried m m' (unread_at s x n)
      → IsTrue (option_map_or (constraint_passes s m resource x) (constraint_at s n position) true)
      → IsTrue (option_map_or (constraint_passes s m' resource x) (constraint_at s n position) true)
  constraint_step resource x n position each =
      by_case (element_at s n) (of_element x n each)
    where
      by_case : (o : Option Element) → AreCarried m m' (option_map_or (element_unread s x) o [])
          → IsTrue (option_map_or (constraint_passes s m resource x) (option_and_then (λ e. slice_get e.constraints position) o) true)
          → IsTrue (option_map_or (constraint_passes s m' resource x) (option_and_then (λ e. slice_get e.constraints position) o) true)
      by_case None each holds = holds
      by_case (Some e) each holds =
          constraint_among resource x e.constraints position
          (all_back (λ u. IsTrue (m u) → IsTrue (m' u)) (set_unread s x e) (flat_map constraint_unread e.constraints)
          (all_back (λ u. IsTrue (m u) → IsTrue (m' u)) (range_unread e) (set_unread s x e ++ flat_map constraint_unread e.constraints) each))
          holds

  -- those of the node that it refers to for its content
  pub taken_over_step : (resource x : Item) (n t : NodeRef) (position : ℕ) → content_target s n ≡ Some t → AreCarried m m' (unread_at s x n)
      → IsTrue (option_map_or (constraint_passes s m resource x) (constraint_at s t position) true)
      → IsTrue (option_map_or (constraint_passes s m' resource x) (constraint_at s t position) true)
  taken_over_step resource x n t position is each =
      by_case (element_at s t) (subst (λ o. AreCarried m m' (option_map_or (constraints_unread s) o [])) is (of_target x n each))
    where
      by_case : (o : Option Element) → AreCarried m m' (option_map_or (λ e. flat_map constraint_unread e.constraints) o [])
          → IsTrue (option_map_or (constraint_passes s m resource x) (option_and_then (λ e. slice_get e.constraints position) o) true)
          → IsTrue (option_map_or (constraint_passes s m' resource x) (option_and_then (λ e. slice_get e.constraints position) o) true)
      by_case None each holds = holds
      by_case (Some e) each holds = constraint_among resource x e.constraints position each holds
