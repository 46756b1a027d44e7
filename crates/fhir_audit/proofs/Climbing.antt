-- Definitions that are marked, one after the other, from one up along what each rests on.
use Rattle.std.proofs.Common.{zero, ◌≤◌, suc, cond, [], ◌∷◌, ◌≡◌, ◌≢◌, ◌⊎◌, ◌+◌, ◌<◌, ℕ, List, Bool, true, false, length, set, Option, None, Some, IsTrue, refl, sym, ap, subst, ◌∙◌, inl, inr, arith}
use Rattle.std.proofs.lemmas.Bool.{cases_eq, cases_lt, false≢true}
use Rattle.std.proofs.lemmas.List.{get_or-set_same, get_or-set_other, get_or_past, length-map}
use Rattle.std.specs.List.{position_from, slice_get}
use Rattle.std.specs.Map.{keys_of}
use Rattle.std.specs.Option.{option_and_then, option_map_or}
use Rattle.std.specs.Str.{bytes_eq}
use Rattle.fhir_json.specs.Tree.{Text, Tree}
use Rattle.fhir_package.specs.declared.kind.Kind.TheVariants.{StructureDefinition}
use Rattle.fhir_package.specs.Definitions.{Definitions, place_in}
use Rattle.fhir_findings.specs.Selecting.{is_own}
use Rattle.fhir_audit.specs.Asked.{base_of, base_place, IsClosed, AreAsked}
use Rattle.fhir_audit.specs.Marks.{marked, IsMarked, IsNext, RestsWithin, AreWithin, IsTaken, is_own_at}

-- ---- one mark more

pub mark_new : (marks : List Bool) (place : ℕ) → place < length marks → IsMarked (set marks place true) place
mark_new marks place lt = get_or-set_same marks place true false lt

pub mark_kept : (marks : List Bool) (place other : ℕ) → place < length marks → IsMarked marks other → IsMarked (set marks place true) other
mark_kept marks place other lt is = by (cases_eq other place)
  where
    by : ((other ≡ place) ⊎ (other ≢ place)) → IsMarked (set marks place true) other
    by (inl same) = subst (λ n. IsMarked (set marks place true) n) (sym same) (mark_new marks place lt)
    by (inr differs) = get_or-set_other marks place other true false differs ∙ is

mark_from : (marks : List Bool) (place other : ℕ) → place < length marks → IsMarked (set marks place true) other
    → (other ≡ place) ⊎ IsMarked marks other
mark_from marks place other lt is = by (cases_eq other place)
  where
    by : ((other ≡ place) ⊎ (other ≢ place)) → (other ≡ place) ⊎ IsMarked marks other
    by (inl same) = inl same
    by (inr differs) = inr (sym (get_or-set_other marks place other true false differs) ∙ is)

-- ---- what each rests on

place_below : {K : Type 0} (t : K → Bool) (i : ℕ) (xs : List K) (n : ℕ) → position_from t i xs ≡ Some n → n < i + length xs
place_below t i [] n e = cc
place_below {K} t i (x ∷ xs) n e = by (t x) e (place_below t (i + 1) xs n)
  where
    by : (b : Bool) → cond b (Some i) (position_from t (i + 1) xs) ≡ Some n → (position_from t (i + 1) xs ≡ Some n → n < (i + 1) + length xs)
        → n < i + suc (length xs)
    by true is rest = let same : i ≡ n = cc in omega arith
    by false is rest = let lt : n < (i + 1) + length xs = rest is in omega arith

-- what a definition rests on is one of the definitions
pub base_within : (p : Definitions) (place base : ℕ) → base_place p place ≡ Some base → base < length p.structure_definitions
base_within p place base on = at (slice_get p.structure_definitions place) on
  where
    within : (url : Option Text) → option_and_then (λ u. place_in StructureDefinition u p) url ≡ Some base → base < length p.structure_definitions
    within None is = cc
    within (Some url) is =
        let lt : base < 0 + length (keys_of p.structure_definitions) = place_below (bytes_eq url) 0 (keys_of p.structure_definitions) base is in
        let same : length (keys_of p.structure_definitions) ≡ length p.structure_definitions = length-map p.structure_definitions (λ e. e.0) in
        omega arith

    at : (e : Option (Text × Tree)) → option_and_then (λ e. option_and_then (λ u. place_in StructureDefinition u p) (base_of p e.1)) e ≡ Some base
        → base < length p.structure_definitions
    at None is = cc
    at (Some e) is = within (base_of p e.1) is

-- the set has what is next
abbrev pub HasNext : (ℕ → Bool) → Option ℕ → Type 0
HasNext set at = (place : ℕ) → at ≡ Some place → IsTrue (set place)

-- what is next by a step, where the place is marked now
pub rests_more : (p : Definitions) (marks : List Bool) (place : ℕ) → place < length marks → RestsWithin p marks (Some place)
    → RestsWithin p (set marks place true) (base_place p place)
rests_more p marks place lt rests from base is on = by (mark_from marks place from lt is)
  where
    by : ((from ≡ place) ⊎ IsMarked marks from) → IsMarked (set marks place true) base ⊎ IsNext (base_place p place) base
    by (inl same) = inr (subst (λ n. base_place p n ≡ Some base) same on)
    by (inr old) = kept (rests from base old on)
      where
        kept : (IsMarked marks base ⊎ IsNext (Some place) base) → IsMarked (set marks place true) base ⊎ IsNext (base_place p place) base
        kept (inl m) = inl (mark_kept marks place base lt m)
        kept (inr next) = inl (subst (λ n. IsMarked (set marks place true) n) (injective next) (mark_new marks place lt))
          where
            injective : Some place ≡ Some base → place ≡ base
            injective e = ap (λ (o : Option ℕ). elim o [ None ↦ place | Some n ↦ n ]) e

-- where what is next is marked, or nothing is, each rests within
pub rests_all : (p : Definitions) (marks : List Bool) (at : Option ℕ) → ((place : ℕ) → at ≡ Some place → IsMarked marks place) → RestsWithin p marks at
    → RestsWithin p marks None
rests_all p marks at has rests place base is on = by (rests place base is on)
  where
    by : (IsMarked marks base ⊎ IsNext at base) → IsMarked marks base ⊎ IsNext None base
    by (inl m) = inl m
    by (inr next) = inl (has base next)

-- Each set that is closed upwards and has the old marks and a place has what is next.
abbrev pub IsNextWithin : Definitions → List Bool → ℕ → Option ℕ → Type 0
IsNextWithin p old from at =
    (set : ℕ → Bool) → ((place base : ℕ) → IsTrue (set place) → base_place p place ≡ Some base → IsTrue (set base))
    → ((place : ℕ) → IsMarked old place → IsTrue (set place)) → IsTrue (set from)
    → (place : ℕ) → at ≡ Some place → IsTrue (set place)

-- such a set has one mark more, where it has what is next
pub within_more : (p : Definitions) (old marks : List Bool) (from place : ℕ) → place < length marks
    → IsNextWithin p old from (Some place) → AreWithin p old from marks → AreWithin p old from (set marks place true)
within_more p old marks from place lt next within closed up olds first n is = by (mark_from marks place n lt is)
  where
    by : ((n ≡ place) ⊎ IsMarked marks n) → IsTrue (closed n)
    by (inl same) = next closed up olds first n (ap (λ (k : ℕ). Some k) (sym same))
    by (inr m) = within closed up olds first n m

-- and what is next by a step
pub next_more : (p : Definitions) (old : List Bool) (from place : ℕ) → IsNextWithin p old from (Some place) → IsNextWithin p old from (base_place p place)
next_more p old from place next closed up olds first base on = up place base (next closed up olds first place refl) on

-- the first is next or marked, also by a step
pub begun_more : (p : Definitions) (marks : List Bool) (from place : ℕ) (at : Option ℕ) → place < length marks → at ≡ Some place
    → ((at ≡ Some from) ⊎ IsMarked marks from) → (base_place p place ≡ Some from) ⊎ IsMarked (set marks place true) from
begun_more p marks from place at lt is (inl first) = inr (subst (λ n. IsMarked (set marks place true) n) (cc) (mark_new marks place lt))
begun_more p marks from place at lt is (inr m) = inr (mark_kept marks place from lt m)

-- ---- a definition that is taken, if it is an own one

pub taken : (p : Definitions) (from : ℕ) (old new : List Bool) → ((n : ℕ) → IsMarked old n → IsMarked new n) → IsMarked new from
    → AreWithin p old from new → (RestsWithin p old None → RestsWithin p new None) → IsTaken p true from old new
taken p from old new kept own within rests =
    record { kept = kept; own = λ _. own; none = λ is. absurd (false≢true (sym is)); within = within; rests = rests }

pub untaken : (p : Definitions) (from : ℕ) (old : List Bool) → IsTaken p false from old old
untaken p from old = record {
  kept = λ n m. m;
  own = λ is. absurd (false≢true is);
  none = λ _. refl;
  within = λ closed up olds first n m. olds n m;
  rests = λ r. r;
}

module _ (prefixes : List Text) (p : Definitions) where
  -- one definition more is taken
  pub own_more : (place : ℕ) (old new : List Bool) → IsTaken p (is_own_at prefixes p place) place old new
      → ((other : ℕ) → other < place → IsTrue (is_own_at prefixes p other) → IsMarked old other)
      → (other : ℕ) → other < place + 1 → IsTrue (is_own_at prefixes p other) → IsMarked new other
  own_more place old new taken before other lt own = by (cases_eq other place)
    where
      by : ((other ≡ place) ⊎ (other ≢ place)) → IsMarked new other
      by (inl same) = subst (λ n. IsMarked new n) (sym same) (taken.own (subst (λ n. IsTrue (is_own_at prefixes p n)) same own))
      by (inr differs) = taken.kept other (before other (omega arith) own)

  pub least_more : (place : ℕ) (old new : List Bool) → IsTaken p (is_own_at prefixes p place) place old new
      → ((closed : ℕ → Bool) → IsClosed prefixes p closed → (n : ℕ) → IsMarked old n → IsTrue (closed n))
      → (closed : ℕ → Bool) → IsClosed prefixes p closed → (n : ℕ) → IsMarked new n → IsTrue (closed n)
  least_more place old new taken before closed is = by (slice_get p.structure_definitions place) refl
    where
      by : (e : Option (Text × Tree)) → slice_get p.structure_definitions place ≡ e → (n : ℕ) → IsMarked new n → IsTrue (closed n)
      by None at n m =
          before closed is n
          (subst (λ l. IsMarked l n) (taken.none (ap (λ (e : Option (Text × Tree)). option_map_or (λ x. is_own prefixes x.0) e false) at)) m)
      by (Some e) at n m = own (is_own prefixes e.0) refl n m
        where
          here : is_own_at prefixes p place ≡ is_own prefixes e.0
          here = ap (λ (o : Option (Text × Tree)). option_map_or (λ x. is_own prefixes x.0) o false) at

          own : (b : Bool) → is_own prefixes e.0 ≡ b → (n : ℕ) → IsMarked new n → IsTrue (closed n)
          own true passes n m = taken.within closed is.above (before closed is) (is.own place e at passes) n m
          own false fails n m = before closed is n (subst (λ l. IsMarked l n) (taken.none (here ∙ fails)) m)

  -- all of them are
  pub closed_by : (marks : List Bool) (n : ℕ) → n ≡ length p.structure_definitions
      → ((other : ℕ) → other < n → IsTrue (is_own_at prefixes p other) → IsMarked marks other) → RestsWithin p marks None
      → IsClosed prefixes p (marked marks)
  closed_by marks n all own rests = record {
    own = λ place e at passes.
        own place (subst (λ k. place < k) (sym all) (there p.structure_definitions place e at))
        (ap (λ (o : Option (Text × Tree)). option_map_or (λ x. is_own prefixes x.0) o false) at ∙ passes);
    above = λ place base m on. by base (rests place base m on);
  }
    where
      there : {A : Type 0} (xs : List A) (i : ℕ) (x : A) → slice_get xs i ≡ Some x → i < length xs
      there [] i x at = cc
      there (y ∷ xs) zero x at = omega arith
      there (y ∷ xs) (suc i) x at = let lt : i < length xs = there xs i x at in omega arith

      by : (base : ℕ) → (IsMarked marks base ⊎ IsNext None base) → IsMarked marks base
      by base (inl m) = m
      by base (inr next) = cc

pub asked_by : (prefix : Text) (prefixes : List Text) (p : Definitions) (set : ℕ → Bool) → IsClosed (prefix ∷ prefixes) p set
    → ((other : ℕ → Bool) → IsClosed (prefix ∷ prefixes) p other → (place : ℕ) → IsTrue (set place) → IsTrue (other place))
    → AreAsked (prefix ∷ prefixes) p set
asked_by prefix prefixes p set closed least place lt = (λ is other up. least other up place is, λ asked. asked set closed)

-- nothing is marked
pub unmarked : (marks : List Bool) → ((place : ℕ) → place < length marks → marked marks place ≡ false) → (place : ℕ) → IsMarked marks place → ⊥
unmarked marks none place is = by (cases_lt place (length marks))
  where
    by : ((place < length marks) ⊎ (length marks ≤ place)) → ⊥
    by (inl lt) = false≢true (sym (none place lt) ∙ is)
    by (inr past) = false≢true (sym (get_or_past marks place false past) ∙ is)
