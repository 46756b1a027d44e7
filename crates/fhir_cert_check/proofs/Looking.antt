-- What a pair's rules answer hangs on the pairs that it asks for.
use Rattle.std.proofs.Common.{◌≡◌, Bool, true, false, List, [], ◌∷◌, ◌++◌, map, Option, Some, None, refl, sym, ◌∙◌, inl, inr, ◌&&◌, ◌||◌, IsTrue, not, cond}
use Rattle.std.specs.Prelude.{is_some}
use Rattle.std.specs.List.{list_all, list_any, flat_map, Contains}
use Rattle.std.specs.Option.{option_map, option_map_or, option_and_then, option_to_list}
use Rattle.std.specs.Str.{bytes_eq}
use Rattle.std.proofs.lemmas.Bool.{and_parts, and_from, or_cases, or_left, or_right, true≢false}
use Rattle.std.proofs.lemmas.List.Elements.{Contains-append_left, Contains-append_right, Contains-append_cases, Contains-push}
use Rattle.fhir_json.specs.Tree.{Text}
use Rattle.fhir_json.specs.Bytes.{is_empty}
use Rattle.fhir_elements.specs.TypeEntry.{TypeEntry}
use Rattle.fhir_elements.specs.Tests.{all_hold}
use Rattle.fhir_nodes.specs.declared.node.NodeRef.{NodeRef}
use Rattle.fhir_nodes.specs.Slots.{Slot}
use Rattle.fhir_nodes.specs.Types.{names_resource}
use Rattle.fhir_schema.specs.Schemas.{SchemaValue, entry_of, slots, slot_named, slices, slice_named, is_root_node, holder, child_holder, types, type_root, loaded}
use Rattle.fhir_schema.specs.Covers.{covers}
use Rattle.fhir_facets.specs.Cardinality.{cardinality_narrower}
use Rattle.fhir_facets.specs.Targets.{targets_narrower}
use Rattle.fhir_conformance.specs.Conformance.{is_untyped}
use Rattle.fhir_slicing.specs.SameCriteria.{same_criteria}
use Rattle.fhir_certificate.specs.declared.pair.Pair.{Pair}
use Rattle.fhir_certificate.specs.declared.pair.Pair.TheVariants.{Item, Kids}
use Rattle.fhir_cert_check.specs.Rule.{RuleName, type, children, cardinality, entry, slice, criteria, bounds}
use Rattle.fhir_cert_check.specs.Rules.{elements_answer, is_forbidden_at, constraint_rules, roots_answer, slicing_rules, empty_slice_rule, has_item_pair, has_kids_pair}
use Rattle.fhir_cert_check.specs.Rules.{profile_answers, profiles_answer, entry_answers, types_answer, type_answers}
use Rattle.fhir_cert_check.specs.Rules.{code_children_answer, profiles_children_answer, entry_children_answer, type_children_answer, own_children_answer, children_answer}
use Rattle.fhir_cert_check.specs.Rules.{item_rules, is_paired, own_slice_rules, slice_rules, entry_rules, own_slot_rules, slot_rules, rules_of}
use Rattle.fhir_cert_check.specs.Facets.{facet_rules}
use Rattle.fhir_cert_check.specs.Asked.{item_pair, kids_pair, roots_pair, profile_asked, entry_asked, types_asked, kids_asked, profiles_kids_asked, code_root}
use Rattle.fhir_cert_check.specs.Asked.{entry_kids_asked, children_asked, allowed_pair, slice_pair, elements_asked, slot_asked, asked_for}
use Rattle.fhir_cert_check.proofs.Answered.{all_map, all_both}

abbrev pub RuleList : Type 0
RuleList = List (Bool × RuleName)

-- a relation of two answers, and one of two lists of rules, that all keep of which rules are made
pub record IsKept (R : Bool → Bool → Type 0) (L : RuleList → RuleList → Type 0) : Type 0 where
  pub same : (b : Bool) → R b b
  pub both : (a b c d : Bool) → R a b → R c d → R (a && c) (b && d)
  pub either : (a b c d : Bool) → R a b → R c d → R (a || c) (b || d)
  pub as_is : (xs : RuleList) → L xs xs
  pub rule : (a b : Bool) (r : RuleName) (xs ys : RuleList) → R a b → L xs ys → L ((a, r) ∷ xs) ((b, r) ∷ ys)
  pub joined : (xs ys us vs : RuleList) → L xs ys → L us vs → L (xs ++ us) (ys ++ vs)

-- what each gives of one is among what it gives of another
within : {A : Type 0} (f g : A → List Pair) → ((x : A) (q : Pair) → Contains (f x) q → Contains (g x) q) → (xs : List A) (q : Pair)
    → Contains (flat_map f xs) q → Contains (flat_map g xs) q
within f g step [] q h = h
within f g step (x ∷ xs) q h =
    elim (Contains-append_cases (f x) (flat_map f xs) q h) [
      | inl here ↦ Contains-append_left (g x) (flat_map g xs) q (step x q here)
      | inr there ↦ Contains-append_right (g x) (flat_map g xs) q (within f g step xs q there)
    ]

-- where not all pass a test, not all pass one that gives it
not_all : {A : Type 0} (p q : A → Bool) → ((x : A) → IsTrue (p x) → IsTrue (q x)) → (xs : List A) → list_all q xs ≡ false → list_all p xs ≡ false
not_all p q step xs e = go (list_all p xs) refl
  where
    go : (b : Bool) → list_all p xs ≡ b → b ≡ false
    go true is = absurd (true≢false (sym (all_map p q step xs is) ∙ e))
    go false is = refl

module _ (R : Bool → Bool → Type 0) (L : RuleList → RuleList → Type 0) (k : IsKept R L) (some others : Pair → Bool) where
  -- of each of these pairs, what the two sets say is related
  abbrev pub Agree : List Pair → Type 0
  Agree ps = (q : Pair) → Contains ps q → R (some q) (others q)

  front : (ps qs : List Pair) → Agree (ps ++ qs) → Agree ps
  front ps qs agree q h = agree q (Contains-append_left ps qs q h)

  behind : (ps qs : List Pair) → Agree (ps ++ qs) → Agree qs
  behind ps qs agree q h = agree q (Contains-append_right ps qs q h)

  first : (p : Pair) (ps : List Pair) → Agree (p ∷ ps) → R (some p) (others p)
  first p ps agree = agree p (Contains-append_left (p ∷ []) ps p (Contains-push [] p))

  rest : (p : Pair) (ps : List Pair) → Agree (p ∷ ps) → Agree ps
  rest p ps agree q h = agree q (Contains-append_right (p ∷ []) ps q h)

  -- ---- along a list

  module _ {A : Type 0} (ask : A → List Pair) where
    module _ (p q : A → Bool) (step : (x : A) → Agree (ask x) → R (p x) (q x)) where
      all_along : (xs : List A) → Agree (flat_map ask xs) → R (list_all p xs) (list_all q xs)
      all_along [] agree = k.same true
      all_along (x ∷ xs) agree =
          k.both (p x) (q x) (list_all p xs) (list_all q xs) (step x (front (ask x) (flat_map ask xs) agree))
          (all_along xs (behind (ask x) (flat_map ask xs) agree))

      any_along : (xs : List A) → Agree (flat_map ask xs) → R (list_any p xs) (list_any q xs)
      any_along [] agree = k.same false
      any_along (x ∷ xs) agree =
          k.either (p x) (q x) (list_any p xs) (list_any q xs) (step x (front (ask x) (flat_map ask xs) agree))
          (any_along xs (behind (ask x) (flat_map ask xs) agree))

    rules_along : (f g : A → RuleList) → ((x : A) → Agree (ask x) → L (f x) (g x)) → (xs : List A) → Agree (flat_map ask xs)
        → L (flat_map f xs) (flat_map g xs)
    rules_along f g step [] agree = k.as_is []
    rules_along f g step (x ∷ xs) agree =
        k.joined (f x) (g x) (flat_map f xs) (flat_map g xs) (step x (front (ask x) (flat_map ask xs) agree))
        (rules_along f g step xs (behind (ask x) (flat_map ask xs) agree))

  -- over two lists of which the other one is gone through first
  any_across : {A B : Type 0} (ask : A → B → List Pair) (xs : List A) (p q : B → Bool)
      → ((y : B) → Agree (flat_map (λ x. ask x y) xs) → R (p y) (q y)) → (ys : List B) → Agree (flat_map (λ x. flat_map (ask x) ys) xs)
      → R (list_any p ys) (list_any q ys)
  any_across ask xs p q step [] agree = k.same false
  any_across ask xs p q step (y ∷ ys) agree =
      k.either (p y) (q y) (list_any p ys) (list_any q ys)
      (step y (λ r h. agree r (within (λ x. ask x y) (λ x. ask x y ++ flat_map (ask x) ys)
      (λ x r h. Contains-append_left (ask x y) (flat_map (ask x) ys) r h) xs r h)))
      (any_across ask xs p q step ys (λ r h. agree r (within (λ x. flat_map (ask x) ys) (λ x. ask x y ++ flat_map (ask x) ys)
      (λ x r h. Contains-append_right (ask x y) (flat_map (ask x) ys) r h) xs r h)))

  module _ (s : SchemaValue) where
    -- ---- types

    profile_kept : (own base : Text) → Agree (option_to_list (roots_pair s own base)) → R (profile_answers some s own base) (profile_answers others s own base)
    profile_kept own base = go (bytes_eq own base) (loaded s own) (loaded s base)
      where
        go : (b : Bool) (o p : Option NodeRef) → Agree (option_to_list (cond b None (option_and_then (λ n. option_map (item_pair n) p) o)))
            → R (b || option_map_or (λ n. option_map_or (has_item_pair some n) p false) o false)
            (b || option_map_or (λ n. option_map_or (has_item_pair others n) p false) o false)
        go true o p agree = k.same true
        go false None p agree = k.same false
        go false (Some n) None agree = k.same false
        go false (Some n) (Some m) agree = first (item_pair n m) [] agree

    profiles_kept : (own base : List Text) → Agree (flat_map (λ p. flat_map (λ q. option_to_list (roots_pair s p q)) base) own)
        → R (profiles_answer some s own base) (profiles_answer others s own base)
    profiles_kept own base agree =
        k.either (is_empty base) (is_empty base) _ _ (k.same (is_empty base))
        (k.both (not (is_empty own)) (not (is_empty own)) _ _ (k.same (not (is_empty own)))
        (all_along (λ p. flat_map (λ q. option_to_list (roots_pair s p q)) base)
        (λ p. list_any (λ q. profile_answers some s p q) base) (λ p. list_any (λ q. profile_answers others s p q) base)
        (λ p agree. any_along (λ q. option_to_list (roots_pair s p q)) (λ q. profile_answers some s p q) (λ q. profile_answers others s p q)
        (profile_kept p) base agree)
        own agree))

    entry_kept : (e f : TypeEntry) → Agree (flat_map (λ own. profile_asked s e own f) e.profiles) → R (entry_answers some s e f) (entry_answers others s e f)
    entry_kept e f = go (covers s f.code e.code) (targets_narrower s e f)
      where
        go : (c t : Bool)
            → Agree (flat_map (λ own. cond (c && t) (flat_map (λ base. option_to_list (roots_pair s own base)) f.profiles) []) e.profiles)
            → R (c && t && profiles_answer some s e.profiles f.profiles) (c && t && profiles_answer others s e.profiles f.profiles)
        go true true agree = profiles_kept e.profiles f.profiles agree
        go true false agree = k.same false
        go false t agree = k.same false

    types_kept : (n m : NodeRef) → Agree (types_asked s n m) → R (types_answer some s n m) (types_answer others s n m)
    types_kept n m agree =
        k.either (is_untyped s m) (is_untyped s m) _ _ (k.same (is_untyped s m))
        (k.both (not (is_untyped s n)) (not (is_untyped s n)) _ _ (k.same (not (is_untyped s n)))
        (all_along (entry_asked s (types s m)) (λ e. list_any (λ f. entry_answers some s e f) (types s m)) (λ e. list_any (λ f. entry_answers others s e f) (types s m))
        (λ e agree. any_across (profile_asked s e) e.profiles (λ f. entry_answers some s e f) (λ f. entry_answers others s e f) (entry_kept e) (types s m) agree)
        (types s n) agree))

    type_kept : (n m : NodeRef) → Agree (types_asked s n m) → R (type_answers some s n m) (type_answers others s n m)
    type_kept n m agree = go (is_root_node s n)
      where
        go : (b : Bool) → R (cond b (roots_answer s n m) (not (is_root_node s m) && types_answer some s n m))
            (cond b (roots_answer s n m) (not (is_root_node s m) && types_answer others s n m))
        go true = k.same (roots_answer s n m)
        go false = k.both (not (is_root_node s m)) (not (is_root_node s m)) _ _ (k.same (not (is_root_node s m))) (types_kept n m agree)

    -- ---- children

    found_kept : (base : NodeRef) (o : Option NodeRef) → Agree (kids_asked base o)
        → R (option_map_or (λ derived. has_kids_pair some derived base) o false) (option_map_or (λ derived. has_kids_pair others derived base) o false)
    found_kept base None agree = k.same false
    found_kept base (Some n) agree = first (kids_pair base n) [] agree

    -- a profile that has a pair is loaded
    is_loaded : (set : Pair → Bool) (base : NodeRef) (o : Option NodeRef) → IsTrue (option_map_or (λ root. has_kids_pair set root base) o false) → IsTrue (is_some o)
    is_loaded set base None h = h
    is_loaded set base (Some n) h = refl

    each_profile_kept : (base : NodeRef) (ps : List Text) → Agree (profiles_kids_asked s base ps)
        → R (list_all (λ p. option_map_or (λ root. has_kids_pair some root base) (loaded s p) false) ps)
        (list_all (λ p. option_map_or (λ root. has_kids_pair others root base) (loaded s p) false) ps)
    each_profile_kept base ps = go (list_all (λ p. is_some (loaded s p)) ps) refl
      where
        none : (set : Pair → Bool) → list_all (λ p. is_some (loaded s p)) ps ≡ false
            → list_all (λ p. option_map_or (λ root. has_kids_pair set root base) (loaded s p) false) ps ≡ false
        none set e =
            not_all (λ p. option_map_or (λ root. has_kids_pair set root base) (loaded s p) false) (λ p. is_some (loaded s p))
            (λ p h. is_loaded set base (loaded s p) h) ps e

        go : (b : Bool) → list_all (λ p. is_some (loaded s p)) ps ≡ b → Agree (cond b (flat_map (λ p. kids_asked base (loaded s p)) ps) [])
            → R (list_all (λ p. option_map_or (λ root. has_kids_pair some root base) (loaded s p) false) ps)
            (list_all (λ p. option_map_or (λ root. has_kids_pair others root base) (loaded s p) false) ps)
        go true e agree =
            all_along (λ p. kids_asked base (loaded s p)) (λ p. option_map_or (λ root. has_kids_pair some root base) (loaded s p) false)
            (λ p. option_map_or (λ root. has_kids_pair others root base) (loaded s p) false) (λ p agree. found_kept base (loaded s p) agree) ps agree
        go false e agree = rw (none some e, none others e) (k.same false)

    profiles_kids_kept : (base : NodeRef) (e : TypeEntry) → Agree (profiles_kids_asked s base e.profiles)
        → R (profiles_children_answer some s base e) (profiles_children_answer others s base e)
    profiles_kids_kept base e agree =
        k.both (not (is_empty e.profiles)) (not (is_empty e.profiles)) _ _ (k.same (not (is_empty e.profiles))) (each_profile_kept base e.profiles agree)

    code_kept : (base : NodeRef) (e : TypeEntry) → Agree (kids_asked base (code_root s e))
        → R (code_children_answer some s base e) (code_children_answer others s base e)
    code_kept base e = go (names_resource s.definitions e.code)
      where
        go : (b : Bool) → Agree (kids_asked base (cond b None (type_root s e.code)))
            → R (not b && option_map_or (λ root. has_kids_pair some root base) (type_root s e.code) false)
            (not b && option_map_or (λ root. has_kids_pair others root base) (type_root s e.code) false)
        go true agree = k.same false
        go false agree = found_kept base (type_root s e.code) agree

    entry_kids_kept : (base : NodeRef) (e : TypeEntry) → Agree (entry_kids_asked s base e)
        → R (entry_children_answer some s base e) (entry_children_answer others s base e)
    entry_kids_kept base e agree =
        k.either (profiles_children_answer some s base e) (profiles_children_answer others s base e) _ _
        (profiles_kids_kept base e (front (profiles_kids_asked s base e.profiles) (kids_asked base (code_root s e)) agree))
        (code_kept base e (behind (profiles_kids_asked s base e.profiles) (kids_asked base (code_root s e)) agree))

    type_children_kept : (n base : NodeRef) → Agree (flat_map (entry_kids_asked s base) (types s n))
        → R (type_children_answer some s n base) (type_children_answer others s n base)
    type_children_kept n base agree =
        k.both (not (is_untyped s n)) (not (is_untyped s n)) _ _ (k.same (not (is_untyped s n)))
        (all_along (entry_kids_asked s base) (entry_children_answer some s base) (entry_children_answer others s base) (entry_kids_kept base) (types s n) agree)

    children_kept : (n m : NodeRef) → Agree (children_asked s n m) → R (children_answer some s n m) (children_answer others s n m)
    children_kept n m = go (child_holder s m)
      where
        go : (o : Option NodeRef) → Agree (option_map_or (λ base. kids_asked base (holder s n) ++ flat_map (entry_kids_asked s base) (types s n)) o [])
            → R (option_map_or (λ base. own_children_answer some s n base || type_children_answer some s n base) o true)
            (option_map_or (λ base. own_children_answer others s n base || type_children_answer others s n base) o true)
        go None agree = k.same true
        go (Some base) agree =
            k.either (own_children_answer some s n base) (own_children_answer others s n base) _ _
            (found_kept base (holder s n) (front (kids_asked base (holder s n)) (flat_map (entry_kids_asked s base) (types s n)) agree))
            (type_children_kept n base (behind (kids_asked base (holder s n)) (flat_map (entry_kids_asked s base) (types s n)) agree))

    item_kept : (n m : NodeRef) → Agree (types_asked s n m ++ children_asked s n m) → L (item_rules some s n m) (item_rules others s n m)
    item_kept n m agree =
        let last : L ((children_answer some s n m, children) ∷ []) ((children_answer others s n m, children) ∷ []) =
        k.rule (children_answer some s n m) (children_answer others s n m) children [] []
        (children_kept n m (behind (types_asked s n m) (children_asked s n m) agree)) (k.as_is []) in
        k.rule (type_answers some s n m) (type_answers others s n m) type _ _ (type_kept n m (front (types_asked s n m) (children_asked s n m) agree))
        (k.joined (facet_rules s n m) (facet_rules s n m) _ _ (k.as_is (facet_rules s n m))
        (k.joined (constraint_rules s n m) (constraint_rules s n m) _ _ (k.as_is (constraint_rules s n m)) last))

    -- ---- slots and slices

    paired_kept : (n m : NodeRef) → Agree (option_to_list (allowed_pair s n m)) → R (is_paired some s n m) (is_paired others s n m)
    paired_kept n m = go (is_forbidden_at s n)
      where
        go : (b : Bool) → Agree (option_to_list (cond b None (Some (item_pair n m)))) → R (b || has_item_pair some n m) (b || has_item_pair others n m)
        go true agree = k.same true
        go false agree = first (item_pair n m) [] agree

    slice_kept : (name : Text) (n m : NodeRef) (b : Slot) → Agree (option_to_list (slice_pair s n m b))
        → L (slice_rules some s name n m b) (slice_rules others s name n m b)
    slice_kept name n m b = go (slice_named s n b.name)
      where
        go : (o : Option Slot) → Agree (option_to_list (option_and_then (λ a. allowed_pair s (entry_of n a) (entry_of m b)) o))
            → L (own_slice_rules some s name n m b o) (own_slice_rules others s name n m b o)
        go None agree = k.as_is ((false, slice name b.name) ∷ [])
        go (Some a) agree =
            k.rule (same_criteria s (entry_of n a) (entry_of m b)) (same_criteria s (entry_of n a) (entry_of m b)) (criteria name b.name) _ _ (k.same _)
            (k.rule (elements_answer cardinality_narrower s (entry_of n a) (entry_of m b)) (elements_answer cardinality_narrower s (entry_of n a) (entry_of m b)) (bounds name b.name) _ _ (k.same _)
            (k.rule (is_paired some s (entry_of n a) (entry_of m b)) (is_paired others s (entry_of n a) (entry_of m b)) (slice name b.name) [] []
            (paired_kept (entry_of n a) (entry_of m b) agree) (k.as_is [])))

    entry_rules_kept : (name : Text) (n m : NodeRef) → Agree (elements_asked s n m) → L (entry_rules some s name n m) (entry_rules others s name n m)
    entry_rules_kept name n m = go (is_forbidden_at s n)
      where
        go : (b : Bool) → Agree (cond b [] (item_pair n m ∷ flat_map (λ b. option_to_list (slice_pair s n m b)) (slices s m)))
            → L (cond b (map (empty_slice_rule s name m) (slices s m))
            ((has_item_pair some n m, entry name) ∷ flat_map (slice_rules some s name n m) (slices s m) ++ slicing_rules s name n m))
            (cond b (map (empty_slice_rule s name m) (slices s m))
            ((has_item_pair others n m, entry name) ∷ flat_map (slice_rules others s name n m) (slices s m) ++ slicing_rules s name n m))
        go true agree = k.as_is (map (empty_slice_rule s name m) (slices s m))
        go false agree =
            let asked : List Pair = flat_map (λ b. option_to_list (slice_pair s n m b)) (slices s m) in
            let last : RuleList = slicing_rules s name n m in
            k.rule (has_item_pair some n m) (has_item_pair others n m) (entry name) _ _ (first (item_pair n m) asked agree)
            (k.joined (flat_map (slice_rules some s name n m) (slices s m)) (flat_map (slice_rules others s name n m) (slices s m)) last last
            (rules_along (λ b. option_to_list (slice_pair s n m b)) (slice_rules some s name n m) (slice_rules others s name n m) (slice_kept name n m) (slices s m)
            (rest (item_pair n m) asked agree))
            (k.as_is last))

    slot_kept : (n m : NodeRef) (b : Slot) → Agree (slot_asked s n m b) → L (slot_rules some s n m b) (slot_rules others s n m b)
    slot_kept n m b = go (slot_named s n b.name)
      where
        go : (o : Option Slot) → Agree (option_map_or (λ a. elements_asked s (entry_of n a) (entry_of m b)) o [])
            → L (own_slot_rules some s n m b o) (own_slot_rules others s n m b o)
        go None agree = k.as_is _
        go (Some a) agree =
            let counted = elements_answer cardinality_narrower s (entry_of n a) (entry_of m b) in
            k.rule counted counted (cardinality b.name) _ _ (k.same counted) (entry_rules_kept b.name (entry_of n a) (entry_of m b) agree)

    -- ---- pairs

    pub kept : (p : Pair) → Agree (asked_for s p) → L (rules_of some s p) (rules_of others s p)
    kept (Item p) agree = item_kept p.derived p.base agree
    kept (Kids p) agree =
        rules_along (slot_asked s p.derived p.base) (slot_rules some s p.derived p.base) (slot_rules others s p.derived p.base)
        (slot_kept p.derived p.base) (slots s p.base) agree

-- ---- the two relations

same_kept : IsKept (λ a b. a ≡ b) (λ xs ys. xs ≡ ys)
same_kept = record {
  same = λ b. refl;
  both = λ a b c d e f. rw (e, f) refl;
  either = λ a b c d e f. rw (e, f) refl;
  as_is = λ xs. refl;
  rule = λ a b r xs ys e f. rw (e, f) refl;
  joined = λ xs ys us vs e f. rw (e, f) refl;
}

more_kept : IsKept (λ a b. IsTrue a → IsTrue b) (λ xs ys. IsTrue (all_hold xs) → IsTrue (all_hold ys))
more_kept = record {
  same = λ b h. h;
  both = λ a b c d f g h. let p = and_parts a c h in and_from b d (f p.0) (g p.1);
  either = λ a b c d f g h. elim (or_cases a c h) [ inl x ↦ or_left b d (f x) | inr y ↦ or_right b d (g y) ];
  as_is = λ xs h. h;
  rule = λ a b r xs ys f g h. let p = and_parts a (all_hold xs) h in and_from b (all_hold ys) (f p.0) (g p.1);
  joined = λ xs ys us vs f g h. all_both (λ c. c.0) xs us ys vs f g h;
}

pub same_rules : (s : SchemaValue) (some others : Pair → Bool) (p : Pair) → ((q : Pair) → Contains (asked_for s p) q → some q ≡ others q)
    → rules_of some s p ≡ rules_of others s p
same_rules s some others p agree = kept (λ a b. a ≡ b) (λ xs ys. xs ≡ ys) same_kept some others s p agree

pub right_by_more : (s : SchemaValue) (some more : Pair → Bool) (p : Pair) → ((q : Pair) → Contains (asked_for s p) q → IsTrue (some q) → IsTrue (more q))
    → IsTrue (all_hold (rules_of some s p)) → IsTrue (all_hold (rules_of more s p))
right_by_more s some more p agree =
    kept (λ a b. IsTrue a → IsTrue b) (λ xs ys. IsTrue (all_hold xs) → IsTrue (all_hold ys)) more_kept some more s p agree
