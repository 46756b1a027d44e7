-- Where a resource conforms, so does each item to the nodes that it needs to.
use Rattle.std.proofs.Common.{◌≡◌, ◌<◌, ◌+◌, ℕ, zero, suc, Bool, true, false, cond, not, List, [], ◌∷◌, ◌++◌, map, filter, length, get_or, nat_eq, Option, None, Some, refl, sym, ap, ◌∙◌, subst, ◌||◌, IsTrue, inl, inr, ◌⊎◌, arith}
use Rattle.std.specs.List.{list_all, list_any, slice_get, slice_index_or, range_with_len, Contains}
use Rattle.std.specs.Option.{option_map_or, option_and_then}
use Rattle.std.proofs.lemmas.Bool.{and_parts, eqb-true, false≢true, or_cases}
use Rattle.std.proofs.lemmas.Map.Views.{any-filter_same}
use Rattle.std.proofs.lemmas.Option.{none-some, same_Some, slice_get_within}
use Rattle.std.proofs.lemmas.List.Elements.{Contains-get_or, Contains-append_left, Contains-append_right}
use Rattle.std.proofs.lemmas.List.FromFn.{get_or-range_with_len, length-range_with_len}
use Rattle.fhir_json.specs.Tree.{Text, Tree}
use Rattle.fhir_elements.specs.Constraint.{Constraint, must_hold}
use Rattle.fhir_elements.specs.Element.{Element}
use Rattle.fhir_elements.specs.TypeEntry.{TypeEntry}
use Rattle.fhir_nodes.specs.declared.node.NodeRef.{NodeRef}
use Rattle.fhir_nodes.specs.Expressions.{expression_of}
use Rattle.fhir_fp_syntax.specs.Expression.{Expression}
use Rattle.fhir_fp_eval.specs.Meaning.{is_true}
use Rattle.fhir_schema.specs.Schemas.{SchemaValue, is_root_node, element_at, target, type_root, loaded, types as node_types}
use Rattle.fhir_schema.specs.Covers.{covers}
use Rattle.fhir_schema.specs.Expressions.{constraint_at}
use Rattle.fhir_instance.specs.Items.{Item, Kids, no_kids, kid, Place, type_of, kids_of}
use Rattle.fhir_facets.specs.Seen.{Seen}
use Rattle.fhir_facets.specs.Targets.{targets_hold}
use Rattle.fhir_facets.specs.Unread.{Meaning, as_given, is_given, meaning_of, unread_constraint, profile as unread_profile}
use Rattle.fhir_conformance.specs.Positions.{kid_at}
use Rattle.fhir_conformance.specs.Asks.{Ask, own, types, root, child, root_type, constraint, constraint_ask, own_constraint_asks, constraint_asks, facet_asks, own_root, profile_asks, kids_asks, root_asks, inner_asks, asks}
use Rattle.fhir_conformance.specs.Conformance.{Interpretation, Around, nearest_to, resource_at, inside, below, conforms, kid_tests, ask_conforms, as_read, outermost, Conforms, is_resource_item, constraint_holds, constraint_passes, seen, meaning_at, entry_allows, entry_holds, profile_holds, profiles_hold}
use Rattle.fhir_validator.specs.Needed.{Needed, first, at_item, at_profile, at_child, IsTrueOrGiven, ConstraintsHold, ConstraintsHoldAsGiven}
use Rattle.fhir_conformance.proofs.ByAsks.{IsOfType, IsOfCanonical, conforms_to}
use Rattle.fhir_validator.proofs.Asking.{contains_mapped}

all_among : {A : Type 0} (p : A → Bool) (xs : List A) (x : A) → list_all p xs ≡ true → Contains xs x → p x ≡ true
all_among p [] x each h = absurd (omega (arith, h.1))
all_among p (y ∷ ys) x each h = at (λ rest. all_among p ys x (and_parts (p y) (list_all p ys) each).1 rest) h.0 h.1 h.2
  where
    at : (Contains ys x → p x ≡ true) → (k : ℕ) → k < length (y ∷ ys) → slice_index_or (y ∷ ys) k x ≡ x → p x ≡ true
    at more zero below is = ap p (sym is) ∙ (and_parts (p y) (list_all p ys) each).0
    at more (suc k) below is = more (k, omega (arith, below), is)

test_at : (s : SchemaValue) (meaning : Interpretation) (around : Around) (n : NodeRef) (i : ℕ) (kids : Kids) (j : ℕ) (x : Item) → kid_at kids j ≡ Some x
    → get_or (kid_tests s meaning around i kids) j (λ n. true) n ≡ conforms s meaning (below around (i + j)) x n
test_at s meaning around n i no_kids j x e = absurd (none-some x e)
test_at s meaning around n i (kid name y kids) zero x e =
    let here : i ≡ i + 0 = omega arith in
    ap (λ z. conforms s meaning (below around i) z n) (same_Some y x e) ∙ ap (λ k. conforms s meaning (below around k) x n) here
test_at s meaning around n i (kid name y kids) (suc j) x e =
    let next : suc i + j ≡ i + suc j = omega arith in
    test_at s meaning around n (suc i) kids j x e ∙ ap (λ k. conforms s meaning (below around k) x n) next

-- ---- the only profile of the only type entry

types_asked : (s : SchemaValue) (x : Item) (n : NodeRef) → is_root_node s n ≡ false → Contains (asks s x n) (types n)
types_asked s x n inner =
    subst (λ b. Contains (cond b (root_asks s x n) (inner_asks s x n)) (types n)) (sym inner) (0, omega arith, refl)

-- what passes a test in a list that isn't empty is the only one that passes a wider test
only_one : (p q : TypeEntry → Bool) → ((e : TypeEntry) → q e ≡ true → p e ≡ true) → (es : List TypeEntry) (entry : TypeEntry) → filter p es ≡ entry ∷ []
    → (nat_eq (length es) 0 || list_any q es) ≡ true → q entry ≡ true
only_one p q within [] entry one some = absurd (omega (arith, ap length one))
only_one p q within (e ∷ es) entry one some =
    let is_there : list_any q (e ∷ es) ≡ true =
    elim (or_cases (nat_eq (length (e ∷ es)) 0) (list_any q (e ∷ es)) some) [
      | inl none ↦ absurd (omega (arith, eqb-true (length (e ∷ es)) 0 none))
      | inr passes ↦ passes
    ] in
    elim (or_cases (q entry) false (sym (ap (list_any q) one) ∙ any-filter_same q p true within (e ∷ es) ∙ is_there)) [
      | inl passes ↦ passes
      | inr fails ↦ absurd (false≢true fails)
    ]

module _ (s : SchemaValue) (m : Meaning) (roots : NodeRef → Bool) (x : Item) where
  allowed : (e : TypeEntry) → entry_holds s m roots x e ≡ true → covers s e.code (type_of x) ≡ true
  allowed e h =
      (and_parts (covers s e.code (type_of x)) (targets_hold s m e (seen x)) (and_parts (entry_allows s m x e) (profiles_hold s m roots x e.profiles) h).0).0

  alone : (profiles : List Text) (url : Text) (r : NodeRef) → profiles ≡ url ∷ [] → loaded s url ≡ Some r
      → profiles_hold s m roots x profiles ≡ true → roots r ≡ true
  alone profiles url r only at h =
      elim (or_cases (profile_holds s m roots x url) false (subst (λ ps. profiles_hold s m roots x ps ≡ true) only h)) [
        | inl holds ↦ sym (ap (λ o. option_map_or roots o (m (unread_profile url))) at) ∙ holds
        | inr fails ↦ absurd (false≢true fails)
      ]

-- ---- what is needed conforms

module _ (s : SchemaValue) (roots : IsOfType s) (others : IsOfCanonical s) (meaning : Interpretation) (o : Item) (profile : NodeRef)
    (holds : IsTrue (conforms s meaning (outermost o) o profile)) where
  -- the item conforms to the node where it stands, and that is the nearest resource at or around it
  abbrev Stands : Item → Item → NodeRef → Type 0
  Stands resource x n = (around : Around) × ((resource_at s around x ≡ resource) × IsTrue (conforms s meaning around x n))

  all_asked : (around : Around) (x : Item) (n : NodeRef) (ask : Ask) → IsTrue (conforms s meaning around x n) → Contains (asks s x n) ask
      → ask_conforms s meaning around x ask ≡ true
  all_asked around x n ask conforming asked =
      all_among (ask_conforms s meaning around x) (asks s x n) ask (sym (conforms_to s roots others meaning around x n) ∙ conforming) asked

  nearest_itself : (b : Bool) (x : Item) → cond b x x ≡ x
  nearest_itself true x = refl
  nearest_itself false x = refl

  pub stands : {place : Place} {resource x : Item} {n : NodeRef} → Needed s o profile place resource x n → Stands resource x n
  stands {place} {resource} {x} {n} (first at is_resource is_item is_profile) = (
    outermost o,
    (
      ap (λ y. nearest_to s o y) is_item ∙ nearest_itself (is_resource_item s o) o ∙ sym is_resource,
      subst (λ m. IsTrue (conforms s meaning (outermost o) x m)) (sym is_profile)
          (subst (λ y. IsTrue (conforms s meaning (outermost o) y profile)) (sym is_item) holds),
    ),
  )
  stands {place} {resource} {x} {n} (at_item {n = m} needed asked) =
      let it = stands needed in (it.0, (it.1.0, all_asked it.0 x m (root n) it.1.1 asked))
  stands {place} {resource} {x} {n} (at_profile {n = m} entry url needed inner only names at) =
      let it = stands needed in
      let M = meaning_at meaning it.0 in
      let roots_here : NodeRef → Bool = conforms s meaning it.0 x in
      let entry_is : entry_holds s M roots_here x entry ≡ true =
      only_one (λ e. covers s e.code (type_of x)) (entry_holds s M roots_here x) (allowed s M roots_here x) (node_types s m) entry only
      (all_asked it.0 x m (types m) it.1.1 (types_asked s x m inner)) in (
        it.0,
        (
          it.1.0,
          alone s M roots_here x entry.profiles url n names at
              (and_parts (entry_allows s M x entry) (profiles_hold s M roots_here x entry.profiles) entry_is).1,
        ),
      )
  stands {place} {resource} {x} {n} (at_child {resource = around_it} {x = parent} {n = m} i needed asked at within nearer) =
      let it = stands needed in
      let inner = inside s it.0 parent in
      let first_is : 0 + i ≡ i = omega arith in (
        below inner i,
        (
          ap (λ r. nearest_to s r x) it.1.0 ∙ sym nearer,
          ap (λ k. conforms s meaning (below inner k) x n) (sym first_is) ∙ sym (test_at s meaning inner n 0 (kids_of parent) i x at)
              ∙ all_asked it.0 parent m (child i n) it.1.1 asked,
        ),
      )

-- ---- constraints are asked for

some_bound : {A B : Type 0} (f : A → Option B) (o : Option A) (y : B) → option_and_then f o ≡ Some y → (x : A) × ((o ≡ Some x) × (f x ≡ Some y))
some_bound f None y e = absurd (none-some y e)
some_bound f (Some x) y e = (x, (refl, e))

own_asked : (s : SchemaValue) (k : NodeRef) (position : ℕ) (c : Constraint) → constraint_at s k position ≡ Some c
    → Contains (own_constraint_asks s k) (own (constraint position) k)
own_asked s k position c e =
    let it = some_bound (λ (e : Element). slice_get e.constraints position) (element_at s k) c e in
    let count : option_map_or (λ (e : Element). length e.constraints) (element_at s k) 0 ≡ length it.0.constraints =
    ap (λ o. option_map_or (λ (e : Element). length e.constraints) o 0) it.1.0 in
    let within : position < length it.0.constraints = slice_get_within it.0.constraints position c it.1.1 in
    let all = range_with_len 0 (length it.0.constraints) in
    let here : get_or all position 0 ≡ position = let zero_first : 0 + position ≡ position = omega arith in
    get_or-range_with_len 0 (length it.0.constraints) position 0 within ∙ zero_first in
    let listed : Contains all position =
    subst (Contains all) here (Contains-get_or all position 0 (omega (arith, within, length-range_with_len 0 (length it.0.constraints)))) in
    subst (λ n. Contains (map (constraint_ask k) (range_with_len 0 n)) (own (constraint position) k)) (sym count)
    (contains_mapped (constraint_ask k) all position listed)

listed_with : (s : SchemaValue) (n k : NodeRef) (position : ℕ) (c : Constraint) → (k ≡ n) ⊎ (target s n ≡ Some k) → constraint_at s k position ≡ Some c
    → Contains (constraint_asks s n) (own (constraint position) k)
listed_with s n k position c (inl same) e =
    Contains-append_left (own_constraint_asks s n) (option_map_or (own_constraint_asks s) (target s n) []) (own (constraint position) k)
    (subst (λ m. Contains (own_constraint_asks s m) (own (constraint position) k)) same (own_asked s k position c e))
listed_with s n k position c (inr refers) e =
    Contains-append_right (own_constraint_asks s n) (option_map_or (own_constraint_asks s) (target s n) []) (own (constraint position) k)
    (subst (λ o. Contains (option_map_or (own_constraint_asks s) o []) (own (constraint position) k)) (sym refers) (own_asked s k position c e))

constraint_asked : (s : SchemaValue) (x : Item) (n : NodeRef) (ask : Ask) → Contains (constraint_asks s n) ask → Contains (asks s x n) ask
constraint_asked s x n ask here = by (is_root_node s n)
  where
    by : (b : Bool) → Contains (cond b (root_asks s x n) (inner_asks s x n)) ask
    by true =
        Contains-append_right (own root_type n ∷ facet_asks n) (constraint_asks s n ++ kids_asks s x n) ask
        (Contains-append_left (constraint_asks s n) (kids_asks s x n) ask here)
    by false =
        let more = own_root (type_root s (type_of x)) ++ (profile_asks s x n ++ kids_asks s x n) in
        Contains-append_right (types n ∷ facet_asks n) (constraint_asks s n ++ more) ask (Contains-append_left (constraint_asks s n) more ask here)

-- ---- and so they are true

passed : (b h : Bool) → b ≡ true → (not b || h) ≡ true → h ≡ true
passed true h must e = e
passed false h must e = absurd (false≢true must)

read_and_true : (s : SchemaValue) (texts : List Text) (resource x : Item) (c : Constraint)
    → constraint_holds s (meaning_of texts as_given) resource x c ≡ true → IsTrueOrGiven s texts resource x c
read_and_true s texts resource x c = by (expression_of c) refl
  where
    by : (o : Option Expression) → expression_of c ≡ o
        → option_map_or (λ e. is_true (record { schema = s; resource = resource; context = x }) e x) o (is_given texts (unread_constraint c)) ≡ true
        → IsTrueOrGiven s texts resource x c
    by None f e = inr (f, e)
    by (Some expression) f e = inl (record { expression = expression; read = f; holds = e })

pub constraints_hold : (s : SchemaValue) → IsOfType s → IsOfCanonical s → (texts : List Text) (profile : Text) (t : Tree)
    → Conforms s (as_read texts as_given) profile t → ConstraintsHoldAsGiven s texts profile t
constraints_hold s roots others texts profile t conforming node o usable typed place resource x n k needed which position c at must =
    let M : Interpretation = as_read texts as_given in
    let same_item : conforming.itself ≡ o = same_Some conforming.itself o (sym conforming.typed ∙ typed) in
    let same_node : conforming.node ≡ node = same_Some conforming.node node (sym conforming.usable ∙ usable) in
    let holds : IsTrue (conforms s M (outermost o) o node) =
    subst (λ m. IsTrue (conforms s M (outermost o) o m)) same_node
    (subst (λ y. IsTrue (conforms s M (outermost y) y conforming.node)) same_item conforming.holds) in
    let it = stands s roots others M o node holds needed in
    let asked = constraint_asked s x n (own (constraint position) k) (listed_with s n k position c which at) in
    let m = meaning_of texts as_given in
    let passes : constraint_passes s m (resource_at s it.0 x) x c ≡ true =
    sym (ap (λ o. option_map_or (constraint_passes s m (resource_at s it.0 x) x) o true) at)
    ∙ all_asked s roots others M o node holds it.0 x n (own (constraint position) k) it.1.1 asked in
    subst (λ r. IsTrueOrGiven s texts r x c) it.1.0
    (read_and_true s texts (resource_at s it.0 x) x c (passed (must_hold c) (constraint_holds s m (resource_at s it.0 x) x c) must passes))

-- where no rule is given, each is true
pub none_given : (s : SchemaValue) (profile : Text) (t : Tree) → ConstraintsHoldAsGiven s [] profile t → ConstraintsHold s profile t
none_given s profile t each node o usable typed place resource x n k needed which position c at must =
    elim (each node o usable typed place resource x n k needed which position c at must) [ inl true_of ↦ true_of | inr given ↦ absurd (false≢true given.1) ]
