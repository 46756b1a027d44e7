-- A chain of bases that ends has no more definitions than there are.
use Rattle.std.proofs.Common.{◌≡◌, ◌↔◌, ◌<◌, ◌≤◌, ◌+◌, ◌-◌, ℕ, zero, suc, Bool, true, false, cond, not, List, [], ◌∷◌, length, Option, None, Some, is_some, IfSome, IsTrue, refl, sym, ap, ◌∙◌, subst, inl, inr, ◌⊎◌, ◌&&◌, arith}
use Rattle.std.specs.List.{slice_get, list_any, IsDistinct, AllByRecursion}
use Rattle.std.specs.Option.{option_and_then, option_map_or}
use Rattle.std.specs.Str.{bytes_eq}
use Rattle.std.specs.Result.{result_ok}
use Rattle.std.proofs.Math.Dec.{eqb}
use Rattle.std.proofs.lemmas.Bool.{or_cases, or_parts, or_left, or_right, and_parts, and_from, false≢true, eqb-true, eq-eqb, cases_lt}
use Rattle.std.proofs.lemmas.Slice.Eq.{bytes_eq-Decides}
use Rattle.std.proofs.lemmas.Option.{none-some, same_Some, slice_get_within}
use Rattle.std.proofs.lemmas.Map.Steps.{length-le_from_distinct_below}
use Rattle.fhir_json.specs.Tree.{Text}
use Rattle.fhir_names.specs.Canonicals.{read_canonical}
use Rattle.fhir_definition.specs.Definition.{Definition}
use Rattle.fhir_nodes.specs.Urls.{url_place, is_versioned, where_versioned, version_place, canonical_place}
use Rattle.fhir_nodes.specs.Types.{type_place, names_resource}
use Rattle.fhir_schema.specs.Settling.{base_place, base_of_place, ends_within, chain_ends}
use Rattle.fhir_schema.specs.Covers.{meets_within, reaches, reaches_type, covers_in}
use Rattle.fhir_schema.specs.Chains.{base_after}
use Rattle.fhir_schema.proofs.Stepping.{after-none, after-sum, ends-after}
use Rattle.further_laws.specs.Bases.{Ends, Leads}

-- what follows from what an option leads to
pub bound : {A B : Type 0} (P : Type 0) (f : A → Option B) (o : Option A) (y : B) → ((x : A) → o ≡ Some x → f x ≡ Some y → P) → option_and_then f o ≡ Some y → P
bound P f None y h e = absurd (none-some y e)
bound P f (Some x) y h e = h x refl e

if_some : {A : Type 0} (P : A → Type 0) (o : Option A) → ((x : A) → o ≡ Some x → P x) → IfSome o P
if_some P None h = tt
if_some P (Some x) h = h x refl

module _ (ds : List Definition) (placed : (place : ℕ) (d : Definition) → slice_get ds place ≡ Some d → d.place ≡ place) where
  -- ---- places that are named are places of the list

  within : (i : ℕ) (d : Definition) → slice_get ds i ≡ Some d → d.place < length ds
  within i d e = subst (λ k. k < length ds) (sym (placed i d e)) (slice_get_within ds i d e)

  url_within : (es : List Definition) → ((i : ℕ) (d : Definition) → slice_get es i ≡ Some d → d.place < length ds)
      → (url : Text) (k : ℕ) → url_place es url ≡ Some k → k < length ds
  url_within [] each url k e = absurd (none-some k e)
  url_within (d ∷ es) each url k e = by (url_within es (λ i e. each (suc i) e) url k) (bytes_eq url d.url) e
    where
      by : (url_place es url ≡ Some k → k < length ds) → (b : Bool) → cond b (Some d.place) (url_place es url) ≡ Some k → k < length ds
      by more true f = subst (λ k. k < length ds) (same_Some d.place k f) (each 0 d refl)
      by more false f = more f

  type_within : (es : List Definition) → ((i : ℕ) (d : Definition) → slice_get es i ≡ Some d → d.place < length ds)
      → (code : Text) (k : ℕ) → type_place es code ≡ Some k → k < length ds
  type_within [] each code k e = absurd (none-some k e)
  type_within (d ∷ es) each code k e = by (type_within es (λ i e. each (suc i) e) code k) (d.is_type && bytes_eq code d.type) e
    where
      by : (type_place es code ≡ Some k → k < length ds) → (b : Bool) → cond b (Some d.place) (type_place es code) ≡ Some k → k < length ds
      by more true f = subst (λ k. k < length ds) (same_Some d.place k f) (each 0 d refl)
      by more false f = more f

  canonical_within : (canonical : Text) (k : ℕ) → canonical_place ds canonical ≡ Some k → k < length ds
  canonical_within canonical k =
      bound (k < length ds) (version_place ds) (result_ok (read_canonical canonical)) k
      (λ r is. bound (k < length ds) (where_versioned ds r.1) (url_place ds r.0) k
      (λ place named. versioned place (option_map_or (λ v. is_versioned ds v place) r.1 true) (url_within ds within r.0 place named)))
    where
      versioned : (place : ℕ) (b : Bool) → place < length ds → cond b (Some place) None ≡ Some k → k < length ds
      versioned place true h f = subst (λ k. k < length ds) (same_Some place k f) h
      versioned place false h f = absurd (none-some k f)

  base_within : (d : Definition) (k : ℕ) → base_place ds d ≡ Some k → k < length ds
  base_within d k = bound (k < length ds) (canonical_place ds) d.base k (λ canonical is. canonical_within canonical k)

  next_within : (p k : ℕ) → base_of_place ds p ≡ Some k → k < length ds
  next_within p k = bound (k < length ds) (base_place ds) (slice_get ds p) k (λ d is. base_within d k)

  abbrev IsWithin : Option ℕ → Type 0
  IsWithin place = IfSome place (λ p. p < length ds)

  bases_within : (p : ℕ) → IsWithin (base_of_place ds p)
  bases_within p = if_some (λ k. k < length ds) (base_of_place ds p) (next_within p)

  -- ---- a chain that ends comes by no place again

  abbrev trail : ℕ → Option ℕ → List ℕ
  trail zero place = []
  trail (suc n) None = []
  trail (suc n) (Some p) = p ∷ trail n (base_of_place ds p)

  on_trail : (n : ℕ) (place : Option ℕ) (q : ℕ) → list_any (eqb q) (trail n place) ≡ true → (k : ℕ) × (base_after ds k place ≡ Some q)
  on_trail zero place q h = absurd (false≢true h)
  on_trail (suc n) None q h = absurd (false≢true h)
  on_trail (suc n) (Some p) q h =
      elim (or_cases (eqb q p) (list_any (eqb q) (trail n (base_of_place ds p))) h) [
        | inl here ↦ (0, ap Some (sym (eqb-true q p here)))
        | inr there ↦ let it = on_trail n (base_of_place ds p) q there in (suc it.0, it.1)
      ]

  trail_within : (n : ℕ) (place : Option ℕ) → IsWithin place → (q : ℕ) → list_any (eqb q) (trail n place) ≡ true → q < length ds
  trail_within zero place valid q h = absurd (false≢true h)
  trail_within (suc n) None valid q h = absurd (false≢true h)
  trail_within (suc n) (Some p) valid q h =
      elim (or_cases (eqb q p) (list_any (eqb q) (trail n (base_of_place ds p))) h) [
        | inl here ↦ subst (λ k. k < length ds) (sym (eqb-true q p here)) valid
        | inr there ↦ trail_within n (base_of_place ds p) (bases_within p) q there
      ]

  -- a chain that comes back to a place goes on for as long as one likes
  for_ever : (k p : ℕ) → base_after ds (suc k) (Some p) ≡ Some p → (j : ℕ) → (t : ℕ) × ((j ≤ t) × (base_after ds t (Some p) ≡ Some p))
  for_ever k p back zero = (0, (omega arith, refl))
  for_ever k p back (suc j) =
      let it = for_ever k p back j in
      (suc k + it.0, (omega (arith, it.1.0), sym (after-sum ds (suc k) it.0 (Some p)) ∙ ap (base_after ds it.0) back ∙ it.1.1))

  no_return : (k p : ℕ) → Ends ds (Some p) → base_after ds (suc k) (Some p) ≡ Some p → ⊥
  no_return k p ends back =
      let it = for_ever k p back ends.0 in
      let more : ends.0 + (it.0 - ends.0) ≡ it.0 = omega (arith, it.1.0) in
      none-some p (sym (after-none ds (it.0 - ends.0)) ∙ ap (base_after ds (it.0 - ends.0)) (sym ends.1)
      ∙ after-sum ds ends.0 (it.0 - ends.0) (Some p) ∙ ap (λ t. base_after ds t (Some p)) more ∙ it.1.1)

  base_ends : (p : ℕ) → Ends ds (Some p) → Ends ds (base_of_place ds p)
  base_ends p ends = by ends.0 ends.1
    where
      by : (n : ℕ) → base_after ds n (Some p) ≡ None → Ends ds (base_of_place ds p)
      by zero e = absurd (none-some p (sym e))
      by (suc n) e = (n, e)

  apart_from : (p : ℕ) (xs : List ℕ) → list_any (eqb p) xs ≡ false → AllByRecursion (λ y. eqb p y ≡ false) xs
  apart_from p [] h = tt
  apart_from p (y ∷ ys) h = let both = or_parts (eqb p y) (list_any (eqb p) ys) h in (both.0, apart_from p ys both.1)

  trail_distinct : (n : ℕ) (place : Option ℕ) → Ends ds place → IsDistinct eqb (trail n place)
  unfolding IsDistinct
  trail_distinct zero place ends = tt
  trail_distinct (suc n) None ends = tt
  trail_distinct (suc n) (Some p) ends =
      (apart_from p (trail n (base_of_place ds p)) (away (list_any (eqb p) (trail n (base_of_place ds p))) refl), trail_distinct n (base_of_place ds p) (base_ends p ends))
    where
      away : (b : Bool) → list_any (eqb p) (trail n (base_of_place ds p)) ≡ b → b ≡ false
      away true h = let it = on_trail n (base_of_place ds p) p h in absurd (no_return it.0 p ends it.1)
      away false h = refl

  trail_full : (n : ℕ) (place : Option ℕ) (q : ℕ) → base_after ds n place ≡ Some q → length (trail (suc n) place) ≡ suc n
  trail_full n None q e = absurd (none-some q (sym (after-none ds n) ∙ e))
  trail_full zero (Some p) q e = refl
  trail_full (suc n) (Some p) q e = ap suc (trail_full n (base_of_place ds p) q e)

  -- so it is at its end after as many steps as there are definitions
  pub short : (place : Option ℕ) → IsWithin place → Ends ds place → base_after ds (length ds) place ≡ None
  short place valid ends = by (base_after ds (length ds) place) refl
    where
      by : (o : Option ℕ) → base_after ds (length ds) place ≡ o → o ≡ None
      by None e = refl
      by (Some q) e =
          let few = length-le_from_distinct_below (trail (suc (length ds)) place) (length ds) (trail_distinct (suc (length ds)) place ends)
          (trail_within (suc (length ds)) place valid) in
          absurd (omega (arith, few, trail_full (length ds) place q e))

  -- ---- what is decided within so many steps

  none_after : (o : Option ℕ) → not (is_some o) ≡ true → o ≡ None
  none_after None h = refl
  none_after (Some q) h = absurd (false≢true h)

  ended : (n : ℕ) (place : Option ℕ) → IsTrue (ends_within ds n place) → Ends ds place
  ended n place h = (n, none_after (base_after ds n place) (ends-after ds n place ∙ h))

  ending : (place : Option ℕ) → IsWithin place → Ends ds place → IsTrue (ends_within ds (length ds) place)
  ending place valid ends =
      sym (ends-after ds (length ds) place) ∙ ap (λ o. not (is_some o)) (short place valid ends)

  pub chain_ends_where : (d : Definition) → IsTrue (chain_ends ds d) ↔ Ends ds (base_place ds d)
  chain_ends_where d =
      (ended (length ds) (base_place ds d), ending (base_place ds d) (if_some (λ k. k < length ds) (base_place ds d) (base_within d)))

  met : (goal n : ℕ) (place : Option ℕ) → meets_within ds goal n place ≡ true → (k : ℕ) × (base_after ds k place ≡ Some goal)
  met goal n None h = absurd (false≢true h)
  met goal zero (Some p) h = absurd (false≢true h)
  met goal (suc n) (Some p) h =
      elim (or_cases (eqb goal p) (meets_within ds goal n (base_of_place ds p)) h) [
        | inl here ↦ (0, ap Some (sym (eqb-true goal p here)))
        | inr there ↦ let it = met goal n (base_of_place ds p) there in (suc it.0, it.1)
      ]

  meets : (goal k n : ℕ) (place : Option ℕ) → k < n → base_after ds k place ≡ Some goal → meets_within ds goal n place ≡ true
  meets goal k n None h e = absurd (none-some goal (sym (after-none ds k) ∙ e))
  meets goal k zero (Some p) h e = absurd (omega (arith, h))
  meets goal zero (suc n) (Some p) h e =
      or_left (eqb goal p) (meets_within ds goal n (base_of_place ds p)) (eq-eqb goal p (sym (same_Some p goal e)))
  meets goal (suc k) (suc n) (Some p) h e =
      or_right (eqb goal p) (meets_within ds goal n (base_of_place ds p)) (meets goal k n (base_of_place ds p) (omega (arith, h)) e)

  -- a place that a chain comes by is one of as many as there are definitions
  near : (start goal k : ℕ) → start < length ds → Ends ds (Some start) → base_after ds k (Some start) ≡ Some goal → k < length ds
  near start goal k valid ends e =
      elim (cases_lt k (length ds)) [
        | inl h ↦ h
        | inr h ↦
            let over : length ds + (k - length ds) ≡ k = omega (arith, h) in
            absurd (none-some goal (sym (after-none ds (k - length ds)) ∙ ap (base_after ds (k - length ds)) (sym (short (Some start) valid ends))
            ∙ after-sum ds (length ds) (k - length ds) (Some start) ∙ ap (λ t. base_after ds t (Some start)) over ∙ e))
      ]

  leads : (from code : Text) (start : ℕ) → type_place ds from ≡ Some start → (goal : ℕ) → type_place ds code ≡ Some goal
      → IsTrue (reaches ds start goal) → Leads ds from code
  leads from code start is goal to h =
      let both = and_parts (ends_within ds (length ds) (Some start)) (meets_within ds goal (length ds) (Some start)) h in
      record {
        start = start;
        goal = goal;
        of_from = is;
        of_code = to;
        ends = ended (length ds) (Some start) both.0;
        reaches = met goal (length ds) (Some start) both.1;
      }

  leads_where : (from code : Text) → IsTrue (reaches_type ds from code) → Leads ds from code
  leads_where from code = of_start (type_place ds from) refl
    where
      of_goal : (start : ℕ) → type_place ds from ≡ Some start → (o : Option ℕ) → type_place ds code ≡ o
          → IsTrue (option_map_or (reaches ds start) o false) → Leads ds from code
      of_goal start is None to h = absurd (false≢true h)
      of_goal start is (Some goal) to h = leads from code start is goal to h

      of_start : (o : Option ℕ) → type_place ds from ≡ o
          → IsTrue (option_map_or (λ start. option_map_or (reaches ds start) (type_place ds code) false) o false) → Leads ds from code
      of_start None is h = absurd (false≢true h)
      of_start (Some start) is h = of_goal start is (type_place ds code) refl h

  led_to : (from code : Text) → Leads ds from code → IsTrue (reaches_type ds from code)
  led_to from code h =
      let valid = type_within ds within from h.start h.of_from in
      rw (h.of_from, h.of_code)
      (and_from (ends_within ds (length ds) (Some h.start)) (meets_within ds h.goal (length ds) (Some h.start))
      (ending (Some h.start) valid h.ends)
      (meets h.goal h.reaches.0 (length ds) (Some h.start) (near h.start h.goal h.reaches.0 valid h.ends h.reaches.1) h.reaches.1))

  pub covers_where : (code other : Text)
      → IsTrue (covers_in ds code other) ↔ ((code ≡ other) ⊎ (IsTrue (names_resource ds code) × Leads ds other code))
  covers_where code other = (there, back)
    where
      there : IsTrue (covers_in ds code other) → (code ≡ other) ⊎ (IsTrue (names_resource ds code) × Leads ds other code)
      there h =
          elim (or_cases (bytes_eq code other) (names_resource ds code && reaches_type ds other code) h) [
            | inl same ↦ inl ((bytes_eq-Decides code other).0 same)
            | inr by_bases ↦
                let both = and_parts (names_resource ds code) (reaches_type ds other code) by_bases in
                inr (both.0, leads_where other code both.1)
          ]

      back : ((code ≡ other) ⊎ (IsTrue (names_resource ds code) × Leads ds other code)) → IsTrue (covers_in ds code other)
      back (inl same) = or_left (bytes_eq code other) (names_resource ds code && reaches_type ds other code) ((bytes_eq-Decides code other).1 same)
      back (inr by_bases) =
          or_right (bytes_eq code other) (names_resource ds code && reaches_type ds other code)
          (and_from (names_resource ds code) (reaches_type ds other code) by_bases.0 (led_to other code by_bases.1))
