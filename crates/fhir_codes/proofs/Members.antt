-- Concepts, their order, and sets of them by what they have.
use Rattle.std.proofs.Common.{◌≡◌, ℕ, zero, suc, ◌<◌, ◌+◌, List, [], ◌∷◌, ◌++◌, map, length, get_or, filter, Bool, true, false, not, cond, ◌||◌, ◌&&◌, refl, sym, ◌∙◌, ap, inl, inr, arith}
use Rattle.std.specs.List.{list_any, list_all, Contains, dedup}
use Rattle.std.specs.List.Sorted.{IsSorted}
use Rattle.std.specs.declared.cmp.Ordering.{Ordering}
use Rattle.std.specs.declared.cmp.Ordering.TheVariants.{Less, Equal, Greater}
use Rattle.std.specs.Ordering.{ordering_reverse, eq_by_cmp, is_eq, is_lt, nat_cmp, ordering_then}
use Rattle.std.specs.Cmp.{IsTotalOrder, IsEquivalence}
use Rattle.std.specs.Cmp.Lexicographic.{slice_cmp}
use Rattle.std.specs.Str.{bytes_eq}
use Rattle.std.specs.FinSet as set
use Rattle.std.proofs.lemmas.Bool.{and_parts, and_from, or_cases, or_left, or_right}
use Rattle.std.proofs.lemmas.Cmp.{eq_by_cmp_equiv, tied_itself, then_total, on_total, nat_list_cmp_total}
use Rattle.std.proofs.lemmas.List.Folds.{list_any_at, list_any-append}
use Rattle.std.proofs.lemmas.List.Kept.{Contains-dedup, Contains-from_dedup, IsStrictlySortedBy-dedup}
use Rattle.std.proofs.lemmas.Map.Keys.{Less-from_sorted}
use Rattle.std.proofs.lemmas.Map.Lookups.{exact_pairs, exact_bytes}
use Rattle.std.proofs.lemmas.Map.Text.{is_eq-slice_cmp}
use Rattle.std.proofs.lemmas.Map.Views.{Contains-from_any}
use mathlib.Core.Bool.{false≢true}
use Rattle.fhir_json.specs.Tree.{Text}
use Rattle.fhir_codes.specs.Concepts.{Concept, Concepts, concept, concept_cmp, of_system, union_of, common, has_code}

-- ---- the order

pub concept_total : IsTotalOrder concept_cmp
concept_total = then_total (on_total (λ (c : Concept). c.code) nat_list_cmp_total) (on_total (λ (c : Concept). c.system) nat_list_cmp_total)

-- concepts that tie are one
pub exact_concepts : (x y : Concept) → concept_cmp x y ≡ Equal → x ≡ y
exact_concepts x y h = ap (λ (p : Text × Text). concept p.1 p.0) (exact_pairs (slice_cmp nat_cmp) (slice_cmp nat_cmp) exact_bytes exact_bytes (x.code, x.system) (y.code, y.system) h)

abbrev pub same : Concept → Concept → Bool
same x y = eq_by_cmp concept_cmp x y

is_equal : (r : Ordering) → is_eq r ≡ true → r ≡ Equal
is_equal Less e = absurd (false≢true e)
is_equal Equal e = refl
is_equal Greater e = absurd (false≢true e)

pub one_concept : (x y : Concept) → same x y ≡ true → x ≡ y
one_concept x y h = exact_concepts x y (is_equal (concept_cmp x y) h)

pub same_itself : (x : Concept) → same x x ≡ true
same_itself x = ap is_eq (tied_itself concept_total x)

-- ---- by the code alone

abbrev pub code_cmp : Concept → Concept → Ordering
code_cmp x y = slice_cmp nat_cmp x.code y.code

pub code_total : IsTotalOrder code_cmp
code_total = on_total (λ (c : Concept). c.code) nat_list_cmp_total

code_ties : (x y : Concept) → eq_by_cmp code_cmp x y ≡ bytes_eq x.code y.code
code_ties x y = is_eq-slice_cmp x.code y.code

pub any_by_code : (code : Text) (xs : List Concept) → list_any (eq_by_cmp code_cmp (concept [] code)) xs ≡ list_any (λ c. bytes_eq code c.code) xs
any_by_code code [] = refl
any_by_code code (x ∷ xs) = ap (λ b. b || list_any (eq_by_cmp code_cmp (concept [] code)) xs) (code_ties (concept [] code) x) ∙ ap (λ b. bytes_eq code x.code || b) (any_by_code code xs)

lt_then : (a b : Ordering) → is_lt (ordering_then a b) ≡ false → is_lt a ≡ false
lt_then Less b h = h
lt_then Equal b h = refl
lt_then Greater b h = refl

pub sorted_by_code : (xs : List Concept) → IsSorted concept_cmp xs → IsSorted code_cmp xs
sorted_by_code xs s k d low high = lt_then (code_cmp (get_or xs (k + 1) d) (get_or xs k d)) (slice_cmp nat_cmp (get_or xs (k + 1) d).system (get_or xs k d).system) (s k d low high)

-- ---- Booleans and tests

pub same_bool : (a b : Bool) → (a ≡ true → b ≡ true) → (b ≡ true → a ≡ true) → a ≡ b
same_bool true b f g = sym (f refl)
same_bool false true f g = g refl
same_bool false false f g = refl

any_at : (test : Concept → Bool) (ys : List Concept) (x : Concept) → list_any (same x) ys ≡ true → test x ≡ true → list_any test ys ≡ true
any_at test [] x h is = absurd (false≢true h)
any_at test (y ∷ ys) x h is = elim (or_cases (same x y) (list_any (same x) ys) h) [
  | inl e ↦ or_left (test y) (list_any test ys) (ap test (sym (one_concept x y e)) ∙ is)
  | inr rest ↦ or_right (test y) (list_any test ys) (any_at test ys x rest is)
]

any_within : (test : Concept → Bool) (xs ys : List Concept) → ((x : Concept) → list_any (same x) xs ≡ true → list_any (same x) ys ≡ true) → list_any test xs ≡ true → list_any test ys ≡ true
any_within test [] ys h is = absurd (false≢true is)
any_within test (x ∷ xs) ys h is = elim (or_cases (test x) (list_any test xs) is) [
  | inl here ↦ any_at test ys x (h x (or_left (same x x) (list_any (same x) xs) (same_itself x))) here
  | inr rest ↦ any_within test xs ys (λ y c. h y (or_right (same y x) (list_any (same y) xs) c)) rest
]

-- lists with the same concepts pass each test alike
pub any_alike : (test : Concept → Bool) (xs ys : List Concept) → ((x : Concept) → list_any (same x) xs ≡ list_any (same x) ys) → list_any test xs ≡ list_any test ys
any_alike test xs ys h = same_bool (list_any test xs) (list_any test ys) (any_within test xs ys (λ x c. sym (h x) ∙ c)) (any_within test ys xs (λ x c. h x ∙ c))

all_each : (p : Concept → Bool) (xs : List Concept) → list_all p xs ≡ true → (x : Concept) → list_any (same x) xs ≡ true → p x ≡ true
all_each p [] h x c = absurd (false≢true c)
all_each p (y ∷ ys) h x c =
    let parts = and_parts (p y) (list_all p ys) h in
    elim (or_cases (same x y) (list_any (same x) ys) c) [
      | inl e ↦ ap p (one_concept x y e) ∙ parts.0
      | inr rest ↦ all_each p ys parts.1 x rest
    ]

pub each_all : (p : Concept → Bool) (xs : List Concept) → ((x : Concept) → list_any (same x) xs ≡ true → p x ≡ true) → list_all p xs ≡ true
each_all p [] h = refl
each_all p (y ∷ ys) h =
    let first : p y ≡ true = h y (or_left (same y y) (list_any (same y) ys) (same_itself y)) in
    let rest : list_all p ys ≡ true = each_all p ys (λ x c. h x (or_right (same x y) (list_any (same x) ys) c)) in
    and_from (p y) (list_all p ys) first rest

-- ---- sets

abbrev pub has : Concepts → Concept → Bool
has s c = set.contains s c

-- sets with the same concepts are one
pub one_set : (s t : Concepts) → ((c : Concept) → has s c ≡ has t c) → s ≡ t
one_set s t h = set.same_set concept_total exact_concepts s t h

abbrev pub set_of : List Concept → Concepts
set_of xs = set.from_list xs

pub has-list : (xs : List Concept) (c : Concept) → has (set_of xs) c ≡ list_any (same c) xs
has-list xs c = set.contains-from_list concept_total xs c

pub items_alike : (xs : List Concept) (c : Concept) → list_any (same c) (set.items (set_of xs)) ≡ list_any (same c) xs
items_alike xs c = sym (set.contains-items (set_of xs) c) ∙ has-list xs c

pub has_code-list : (code : Text) (xs : List Concept) → has_code code (set_of xs) ≡ list_any (λ c. bytes_eq code c.code) xs
has_code-list code xs = any_alike (λ c. bytes_eq code c.code) (set.items (set_of xs)) xs (items_alike xs)

-- each concept of a list is in a set exactly where the list's set is a subset
pub subset-list : (xs : List Concept) (t : Concepts) → list_all (set.contains t) xs ≡ set.is_subset (set_of xs) t
subset-list xs t =
    same_bool (list_all (set.contains t) xs) (set.is_subset (set_of xs) t)
    (λ all. set.contains-is_subset concept_total (set_of xs) t (λ c one. all_each (set.contains t) xs all c (sym (has-list xs c) ∙ one)))
    (λ is. each_all (set.contains t) xs (λ c one. set.is_subset-contains concept_total (set_of xs) t is c (has-list xs c ∙ one)))

-- ---- sorting, and doubles dropped

concept_equiv : IsEquivalence same
concept_equiv = eq_by_cmp_equiv concept_total

any_contains : (xs : List Concept) (x : Concept) → list_any (same x) xs ≡ true → Contains xs x
any_contains xs x h = Contains-from_any one_concept x xs h

contains_any : (xs : List Concept) (x : Concept) → Contains xs x → list_any (same x) xs ≡ true
contains_any xs x c = list_any_at (same x) xs c.0 x c.1 (ap (same x) c.2 ∙ same_itself x)

pub deduped_any : (xs : List Concept) (x : Concept) → list_any (same x) (dedup same xs) ≡ list_any (same x) xs
deduped_any xs x =
    same_bool (list_any (same x) (dedup same xs)) (list_any (same x) xs)
    (λ h. contains_any xs x (Contains-from_dedup same xs x (any_contains (dedup same xs) x h)))
    (λ h. contains_any (dedup same xs) x (Contains-dedup concept_equiv one_concept xs x (any_contains xs x h)))

pub deduped_sorted : (xs : List Concept) → IsSorted concept_cmp xs → IsSorted concept_cmp (dedup same xs)
deduped_sorted xs s k d low high =
    let ys : List Concept = dedup same xs in
    let less : concept_cmp (get_or ys k d) (get_or ys (k + 1) d) ≡ Less = Less-from_sorted concept_cmp ys k (k + 1) d (IsStrictlySortedBy-dedup concept_total (λ x y. refl) xs s) (omega arith) high in
    ap is_lt (concept_total.antisymm (get_or ys (k + 1) d) (get_or ys k d) ∙ ap ordering_reverse less)

-- lists with the same concepts make one set
pub list_set : (xs ys : List Concept) → ((x : Concept) → list_any (same x) xs ≡ list_any (same x) ys) → set_of xs ≡ set_of ys
list_set xs ys h = one_set (set_of xs) (set_of ys) (λ c. has-list xs c ∙ h c ∙ sym (has-list ys c))

-- ---- set algebra on lists

pub has-append : (xs ys : List Concept) (c : Concept) → has (set_of (xs ++ ys)) c ≡ (has (set_of xs) c || has (set_of ys) c)
has-append xs ys c =
    has-list (xs ++ ys) c ∙ list_any-append (same c) xs ys
    ∙ ap (λ b. b || list_any (same c) ys) (sym (has-list xs c)) ∙ ap (λ b. has (set_of xs) c || b) (sym (has-list ys c))

one_kept : (p : Concept → Bool) (x c : Concept) (rest : Bool) → (cond (p x) (same c x || (rest && p c)) (rest && p c)) ≡ ((same c x || rest) && p c)
one_kept p x c rest =
    elim (same c x) as (λ b. same c x ≡ b → cond (p x) (b || (rest && p c)) (rest && p c) ≡ ((b || rest) && p c)) [
      | true ↦ λ e. chosen (p x) (p c) rest (ap p (sym (one_concept c x e)))
      | false ↦ λ e. either (p x) (rest && p c)
    ] refl
  where
    either : (b r : Bool) → cond b r r ≡ r
    either true r = refl
    either false r = refl

    chosen : (a b r : Bool) → a ≡ b → cond a true (r && b) ≡ b
    chosen true true r e = refl
    chosen false true r e = absurd (false≢true e)
    chosen true false r e = absurd (false≢true (sym e))
    chosen false false true e = refl
    chosen false false false e = refl

any_filter : (p : Concept → Bool) (xs : List Concept) (c : Concept) → list_any (same c) (filter p xs) ≡ (list_any (same c) xs && p c)
any_filter p [] c = refl
any_filter p (x ∷ xs) c =
    pushed (p x) (filter p xs)
    ∙ ap (λ b. cond (p x) (same c x || b) b) (any_filter p xs c)
    ∙ one_kept p x c (list_any (same c) xs)
  where
    pushed : (b : Bool) (ys : List Concept) → list_any (same c) (cond b (x ∷ ys) ys) ≡ cond b (same c x || list_any (same c) ys) (list_any (same c) ys)
    pushed true ys = refl
    pushed false ys = refl

pub has-filter : (p : Concept → Bool) (xs : List Concept) (c : Concept) → has (set_of (filter p xs)) c ≡ (has (set_of xs) c && p c)
has-filter p xs c = has-list (filter p xs) c ∙ any_filter p xs c ∙ ap (λ b. b && p c) (sym (has-list xs c))

pub filter_difference : (xs : List Concept) (t : Concepts) → set_of (filter (λ c. not (set.contains t c)) xs) ≡ set.difference (set_of xs) t
filter_difference xs t =
    one_set (set_of (filter (λ c. not (set.contains t c)) xs)) (set.difference (set_of xs) t)
    (λ c. has-filter (λ c. not (set.contains t c)) xs c ∙ sym (set.contains-difference concept_total (set_of xs) t c))

and_true : (b : Bool) → b ≡ (b && true)
and_true true = refl
and_true false = refl

pub difference_none : (s t : Concepts) → t ≡ set.empty → s ≡ set.difference s t
difference_none s t none =
    one_set s (set.difference s t)
    (λ c. and_true (has s c) ∙ ap (λ b. has s c && not b) (sym (ap (λ u. has u c) none ∙ set.contains-empty concept_cmp c)) ∙ sym (set.contains-difference concept_total s t c))

-- ---- many sets

pub has-union_of : (ss : List Concepts) (c : Concept) → has (union_of ss) c ≡ list_any (λ s. has s c) ss
has-union_of [] c = set.contains-empty concept_cmp c
has-union_of (s ∷ ss) c = set.contains-union concept_total s (union_of ss) c ∙ ap (λ b. has s c || b) (has-union_of ss c)

pub has-common : (s : Concepts) (ss : List Concepts) (c : Concept) → has (common (s ∷ ss)) c ≡ list_all (λ s. has s c) (s ∷ ss)
has-common s [] c = and_true (has s c)
has-common s (t ∷ ss) c = set.contains-intersection concept_total s (common (t ∷ ss)) c ∙ ap (λ b. has s c && b) (has-common t ss c)

or_false : (b : Bool) → b ≡ (b || false)
or_false true = refl
or_false false = refl

pub united_one : (s : Concepts) → s ≡ union_of (s ∷ [])
united_one s = one_set s (union_of (s ∷ [])) (λ c. or_false (has s c) ∙ sym (has-union_of (s ∷ []) c))

pub is_united : (s : Concepts) (ss : List Concepts) → ((c : Concept) → has s c ≡ list_any (λ s. has s c) ss) → s ≡ union_of ss
is_united s ss h = one_set s (union_of ss) (λ c. h c ∙ sym (has-union_of ss c))

all_or : (a b : Bool) → (b ≡ true → a ≡ true) → (a && b) ≡ b
all_or true b h = refl
all_or false true h = h refl
all_or false false h = refl

get_in_all : (p : Concepts → Bool) (ss : List Concepts) (k : ℕ) (d : Concepts) → k < length ss → list_all p ss ≡ true → p (get_or ss k d) ≡ true
get_in_all p [] k d lt all = absurd (omega arith)
get_in_all p (s ∷ ss) zero d lt all = (and_parts (p s) (list_all p ss) all).0
get_in_all p (s ∷ ss) (suc k) d lt all = get_in_all p ss k d (omega arith) (and_parts (p s) (list_all p ss) all).1

-- what is in one of them and in all of them is in all of them
pub filter_common : (xs : List Concept) (ss : List Concepts) (k : ℕ) (d : Concepts) → k < length ss → set_of xs ≡ get_or ss k d → set_of (filter (λ c. list_all (λ s. set.contains s c) ss) xs) ≡ common ss
filter_common xs [] k d lt is = absurd (omega arith)
filter_common xs (s ∷ ss) k d lt is =
    one_set (set_of (filter (λ c. list_all (λ s. set.contains s c) (s ∷ ss)) xs)) (common (s ∷ ss)) (λ c.
    has-filter (λ c. list_all (λ s. set.contains s c) (s ∷ ss)) xs c
    ∙ ap (λ u. has u c && list_all (λ s. has s c) (s ∷ ss)) is
    ∙ all_or (has (get_or (s ∷ ss) k d) c) (list_all (λ s. has s c) (s ∷ ss)) (get_in_all (λ s. has s c) (s ∷ ss) k d lt)
    ∙ sym (has-common s ss c))

-- ---- a system's codes

same_parts : (x y : Concept) → same x y ≡ (bytes_eq x.code y.code && bytes_eq x.system y.system)
same_parts x y =
    is_eq_then (slice_cmp nat_cmp x.code y.code) (slice_cmp nat_cmp x.system y.system)
    ∙ ap (λ b. b && is_eq (slice_cmp nat_cmp x.system y.system)) (is_eq-slice_cmp x.code y.code)
    ∙ ap (λ b. bytes_eq x.code y.code && b) (is_eq-slice_cmp x.system y.system)
  where
    is_eq_then : (a b : Ordering) → is_eq (ordering_then a b) ≡ (is_eq a && is_eq b)
    is_eq_then Less b = refl
    is_eq_then Equal b = refl
    is_eq_then Greater b = refl

any_of_system : (a : Bool) (c : Concept) (system : Text) (cs : List Text) → bytes_eq c.system system ≡ a → list_any (same c) (map (concept system) cs) ≡ (a && list_any (bytes_eq c.code) cs)
any_of_system true c system [] is = refl
any_of_system false c system [] is = refl
any_of_system true c system (k ∷ ks) is =
    ap (λ b. b || list_any (same c) (map (concept system) ks)) (same_parts c (concept system k) ∙ ap (λ b. bytes_eq c.code k && b) is ∙ sym (and_true (bytes_eq c.code k)))
    ∙ ap (λ b. bytes_eq c.code k || b) (any_of_system true c system ks is)
any_of_system false c system (k ∷ ks) is =
    ap (λ b. b || list_any (same c) (map (concept system) ks)) (same_parts c (concept system k) ∙ ap (λ b. bytes_eq c.code k && b) is ∙ and_none (bytes_eq c.code k))
    ∙ any_of_system false c system ks is
  where
    and_none : (b : Bool) → (b && false) ≡ false
    and_none true = refl
    and_none false = refl

pub has-of_system : (system : Text) (cs : List Text) (c : Concept) → has (of_system system cs) c ≡ (bytes_eq c.system system && list_any (bytes_eq c.code) cs)
has-of_system system cs c = has-list (map (concept system) cs) c ∙ any_of_system (bytes_eq c.system system) c system cs refl
