-- What is found is what is reached.
use Rattle.std.proofs.Common.{◌≡◌, ℕ, zero, suc, ◌<◌, ◌≤◌, ◌+◌, ◌-◌, ◌++◌, Bool, true, false, cond, ◌||◌, List, [], ◌∷◌, map, filter, Option, Some, None, refl, sym, ap, subst, ◌∙◌, inl, inr, ◌⊎◌, arith, IsTrue, length, zero-add}
use Rattle.std.specs.List.{slice_get, IsDistinct, flat_map}
use Rattle.std.specs.Option.{option_map_or}
use Rattle.std.specs.Map.{lookup}
use Rattle.std.specs.Str.{bytes_eq}
use Rattle.std.proofs.Math.Nat.{suc-add}
use Rattle.std.proofs.lemmas.Bool.{cases_lt, or_cases, or_left, or_right, false≢true}
use Rattle.std.proofs.lemmas.List.Folds.{list_any-append}
use Rattle.std.proofs.lemmas.Option.{none-some, same_Some, slice_get_within, slice_get_past}
use Rattle.std.proofs.lemmas.Map.Made.{length-le_from_is_member}
use Rattle.fhir_json.specs.Tree.{Text, Tree}
use Rattle.fhir_package.specs.Definitions.{ByUrl, Definitions}
use Rattle.fhir_reach.specs.Keys.{KeyValue, of_url, of_code, key_eq, has_key, with_keys}
use Rattle.fhir_reach.specs.Naming.{structure_keys, value_set_keys}
use Rattle.fhir_reach.specs.Reach.{is_type_of, types_of, named_by, IsClosed, IsReach}
use Rattle.fhir_reach.specs.Search.{visited, found_after, all_named, reached, IsFound}
use Rattle.fhir_reach.proofs.Keys.{key_laws, kept_by_all, added_by_all, only_by_all, more_by_all, longer, key_there, place_there, distinct_all, none_twice}

cases_place : (k n : ℕ) → k < suc n → (k < n) ⊎ (k ≡ n)
cases_place k n h = elim (cases_lt k n) [ inl less ↦ inl less | inr more ↦ inr (omega (arith, h, more)) ]

get_front : (xs ys : List KeyValue) (k : ℕ) → k < length xs → slice_get (xs ++ ys) k ≡ slice_get xs k
get_front [] ys k h = absurd (omega (arith, h))
get_front (x ∷ xs) ys zero h = refl
get_front (x ∷ xs) ys (suc k) h = get_front xs ys k (omega (arith, h))

module _ (p : Definitions) where
  -- a visit takes nothing away
  pub visited_longer : (found : List KeyValue) (n : ℕ) → length found ≤ length (visited p found n)
  visited_longer found n = by (slice_get found n)
    where
      by : (o : Option KeyValue) → length found ≤ length (option_map_or (λ k. with_keys found (named_by p k)) o found)
      by None = omega arith
      by (Some k) = longer (named_by p k) found

  -- the keys before place n are looked at
  abbrev AreSeen : List KeyValue → ℕ → Type 0
  AreSeen found n = (k : ℕ) (a b : KeyValue) → k < n → slice_get found k ≡ Some a → IsTrue (has_key (named_by p a) b) → IsTrue (has_key found b)

  seen_step : (found : List KeyValue) (n : ℕ) → AreSeen found n → (o : Option KeyValue) → slice_get found n ≡ o
      → AreSeen (option_map_or (λ k. with_keys found (named_by p k)) o found) (suc n)
  seen_step found n seen None e k a b below at named = seen k a b (before (cases_place k n below)) at named
    where
      before : (k < n) ⊎ (k ≡ n) → k < n
      before (inl less) = less
      before (inr same) = absurd (none-some a (sym e ∙ ap (slice_get found) (sym same) ∙ at))
  seen_step found n seen (Some r) e k a b below at named =
      let within = slice_get_within found n r e in
      let more = more_by_all (named_by p r) found in
      let old : slice_get found k ≡ Some a = sym (get_front found more.0 k (omega (arith, below, within))) ∙ ap (λ (l : List KeyValue). slice_get l k) (sym more.1) ∙ at in
      elim (cases_place k n below) [
        | inl less ↦ kept_by_all (named_by p r) found b (seen k a b less old named)
        | inr same ↦
            let is = same_Some r a (sym e ∙ ap (slice_get found) (sym same) ∙ old) in
            added_by_all (named_by p r) found b (subst (λ x. IsTrue (has_key (named_by p x) b)) (sym is) named)
      ]

  module _ (start : List KeyValue) where
    seen_after : (n : ℕ) → AreSeen (found_after p start n) n
    seen_after zero k a b below at named = absurd (omega (arith, below))
    seen_after (suc n) k a b below at named =
        seen_step (found_after p start n) n (seen_after n) (slice_get (found_after p start n) n) refl k a b below at named

    start_after : (n : ℕ) (k : KeyValue) → IsTrue (has_key start k) → IsTrue (has_key (found_after p start n) k)
    start_after zero k h = added_by_all start [] k h
    start_after (suc n) k h = by (slice_get (found_after p start n) n) (start_after n k h)
      where
        by : (o : Option KeyValue) → IsTrue (has_key (found_after p start n) k)
            → IsTrue (has_key (option_map_or (λ j. with_keys (found_after p start n) (named_by p j)) o (found_after p start n)) k)
        by None h = h
        by (Some r) h = kept_by_all (named_by p r) (found_after p start n) k h

    distinct_after : (n : ℕ) → IsDistinct key_eq (found_after p start n)
    distinct_after zero = distinct_all start [] none_twice
    distinct_after (suc n) = by (slice_get (found_after p start n) n) (distinct_after n)
      where
        by : (o : Option KeyValue) → IsDistinct key_eq (found_after p start n)
            → IsDistinct key_eq (option_map_or (λ j. with_keys (found_after p start n) (named_by p j)) o (found_after p start n))
        by None h = h
        by (Some r) h = distinct_all (named_by p r) (found_after p start n) h

    module _ (holds : KeyValue → Bool) (closed : IsClosed p start holds) where
      held_after : (n : ℕ) (q : KeyValue) → IsTrue (has_key (found_after p start n) q) → IsTrue (holds q)
      held_after zero q h =
          elim (only_by_all start [] q h) [
            | inl never ↦ absurd (false≢true never)
            | inr first ↦ closed.starts q first
          ]
      held_after (suc n) q h = by (slice_get (found_after p start n) n) refl h (held_after n)
        where
          by : (o : Option KeyValue) → slice_get (found_after p start n) n ≡ o
              → IsTrue (has_key (option_map_or (λ j. with_keys (found_after p start n) (named_by p j)) o (found_after p start n)) q)
              → ((r : KeyValue) → IsTrue (has_key (found_after p start n) r) → IsTrue (holds r)) → IsTrue (holds q)
          by None e h rest = rest q h
          by (Some r) e h rest =
              elim (only_by_all (named_by p r) (found_after p start n) q h) [
                | inl old ↦ rest q old
                | inr new ↦ closed.follows r (rest r (key_there (found_after p start n) n r e)) q new
              ]

    module _ (found : List KeyValue) (is : IsFound p start found) where
      followed : (k : KeyValue) → IsTrue (has_key found k) → (other : KeyValue) → IsTrue (has_key (named_by p k) other) → IsTrue (has_key found other)
      followed k h other named =
          let place = place_there found k h in
          subst (λ (l : List KeyValue). IsTrue (has_key l other)) (sym is)
          (seen_after (length found) place.0 k other (slice_get_within found place.0 k place.1) (subst (λ (l : List KeyValue). slice_get l place.0 ≡ Some k) is place.1) named)

      pub found_reach : IsReach p start found
      found_reach = record {
        closed = record {
          starts = λ k h. subst (λ (l : List KeyValue). IsTrue (has_key l k)) (sym is) (start_after (length found) k h);
          follows = followed;
        };
        least = λ holds closed k h. held_after holds closed (length found) k (subst (λ (l : List KeyValue). IsTrue (has_key l k)) is h);
      }

      pub found_once : IsDistinct key_eq found
      found_once = subst (IsDistinct key_eq) (sym is) (distinct_after (length found))

-- ---- all that can be found

looked_up : (f : Tree → List KeyValue) (es : ByUrl) (url : Text) (k : KeyValue) → IsTrue (has_key (option_map_or f (lookup (bytes_eq url) es) []) k)
    → IsTrue (has_key (flat_map (λ e. f e.1) es) k)
looked_up f [] url k h = absurd (false≢true h)
looked_up f (e ∷ es) url k h =
    rw (list_any-append (key_eq k) (f e.1) (flat_map (λ e. f e.1) es)) (by (bytes_eq url e.0) h (looked_up f es url k))
  where
    by : (b : Bool) → IsTrue (has_key (option_map_or f (cond b (Some e.1) (lookup (bytes_eq url) es)) []) k)
        → (IsTrue (has_key (option_map_or f (lookup (bytes_eq url) es) []) k) → IsTrue (has_key (flat_map (λ e. f e.1) es) k))
        → IsTrue (has_key (f e.1) k || has_key (flat_map (λ e. f e.1) es) k)
    by true h rest = or_left (has_key (f e.1) k) (has_key (flat_map (λ e. f e.1) es) k) h
    by false h rest = or_right (has_key (f e.1) k) (has_key (flat_map (λ e. f e.1) es) k) (rest h)

filtered : (f : Tree → List KeyValue) (es : ByUrl) (code : Text) (k : KeyValue) → IsTrue (has_key (flat_map f (types_of code es)) k)
    → IsTrue (has_key (flat_map (λ e. f e.1) es) k)
filtered f [] code k h = absurd (false≢true h)
filtered f (e ∷ es) code k h =
    rw (list_any-append (key_eq k) (f e.1) (flat_map (λ e. f e.1) es)) (by (is_type_of code e.1) h (filtered f es code k))
  where
    by : (b : Bool) → IsTrue (has_key (flat_map f (map (λ e. e.1) (cond b (e ∷ filter (λ e. is_type_of code e.1) es) (filter (λ e. is_type_of code e.1) es)))) k)
        → (IsTrue (has_key (flat_map f (types_of code es)) k) → IsTrue (has_key (flat_map (λ e. f e.1) es) k))
        → IsTrue (has_key (f e.1) k || has_key (flat_map (λ e. f e.1) es) k)
    by true h rest =
        elim (or_cases (has_key (f e.1) k) (has_key (flat_map f (types_of code es)) k) (rw (list_any-append (key_eq k) (f e.1) (flat_map f (types_of code es))) at h)) [
          | inl here ↦ or_left (has_key (f e.1) k) (has_key (flat_map (λ e. f e.1) es) k) here
          | inr there ↦ or_right (has_key (f e.1) k) (has_key (flat_map (λ e. f e.1) es) k) (rest there)
        ]
    by false h rest = or_right (has_key (f e.1) k) (has_key (flat_map (λ e. f e.1) es) k) (rest h)

module _ (p : Definitions) where
  abbrev of_structures : List KeyValue
  of_structures = flat_map (λ e. structure_keys e.1) p.structure_definitions

  abbrev of_value_sets : List KeyValue
  of_value_sets = flat_map (λ e. value_set_keys e.1) p.value_sets

  in_named : (k other : KeyValue) → IsTrue (has_key (named_by p k) other) → IsTrue (has_key (all_named p) other)
  in_named (of_url url) other h =
      rw (list_any-append (key_eq other) of_structures of_value_sets)
      (elim (or_cases (has_key (option_map_or structure_keys (lookup (bytes_eq url) p.structure_definitions) []) other)
      (has_key (option_map_or value_set_keys (lookup (bytes_eq url) p.value_sets) []) other)
      (rw (list_any-append (key_eq other) (option_map_or structure_keys (lookup (bytes_eq url) p.structure_definitions) [])
      (option_map_or value_set_keys (lookup (bytes_eq url) p.value_sets) [])) at h)) [
        | inl here ↦ or_left (has_key of_structures other) (has_key of_value_sets other) (looked_up structure_keys p.structure_definitions url other here)
        | inr there ↦ or_right (has_key of_structures other) (has_key of_value_sets other) (looked_up value_set_keys p.value_sets url other there)
      ])
  in_named (of_code code) other h =
      rw (list_any-append (key_eq other) of_structures of_value_sets)
      (or_left (has_key of_structures other) (has_key of_value_sets other) (filtered structure_keys p.structure_definitions code other h))

  module _ (start : List KeyValue) where
    abbrev all : List KeyValue
    all = start ++ all_named p

    all_closed : IsClosed p start (has_key all)
    all_closed = record {
      starts = λ k h. rw (list_any-append (key_eq k) start (all_named p)) (or_left (has_key start k) (has_key (all_named p) k) h);
      follows = λ k h other named. rw (list_any-append (key_eq other) start (all_named p)) (or_right (has_key start other) (has_key (all_named p) other) (in_named k other named));
    }

    bounded : (n : ℕ) → length (found_after p start n) ≤ length all
    bounded n = length-le_from_is_member key_laws (found_after p start n) all (distinct_after p start n) (λ q h. held_after p start (has_key all) all_closed n q h)

    follows_reached : (k : KeyValue) → IsTrue (has_key (reached p start) k) → (other : KeyValue) → IsTrue (has_key (named_by p k) other) → IsTrue (has_key (reached p start) other)
    unfolding reached
    follows_reached k h other named =
        let place = place_there (reached p start) k h in
        let within = slice_get_within (reached p start) place.0 k place.1 in
        seen_after p start (length all) place.0 k other (omega (arith, within, bounded (length all))) place.1 named

    pub reached_reach : IsReach p start (reached p start)
    unfolding reached
    reached_reach = record {
      closed = record {
        starts = λ k h. start_after p start (length all) k h;
        follows = follows_reached;
      };
      least = λ holds closed k h. held_after p start holds closed (length all) k h;
    }

    pub reached_once : IsDistinct key_eq (reached p start)
    unfolding reached
    reached_once = distinct_after p start (length all)

    module _ (found : List KeyValue) (is : IsFound p start found) where
      stays : (k : ℕ) → found_after p start (k + length found) ≡ found
      stays zero = rw zero-add (sym is)
      stays (suc k) = rw suc-add (by (stays k))
        where
          by : found_after p start (k + length found) ≡ found → visited p (found_after p start (k + length found)) (k + length found) ≡ found
          by h = rw (h, slice_get_past found (k + length found) (omega arith)) refl

      pub found_reached : found ≡ reached p start
      unfolding reached
      found_reached =
          let most : length found ≤ length all = subst (λ (l : List KeyValue). length l ≤ length all) (sym is) (bounded (length found)) in
          let e : (length all - length found) + length found ≡ length all = omega (arith, most) in
          sym (stays (length all - length found)) ∙ ap (found_after p start) e

    pub within_reached : (n : ℕ) (q : KeyValue) → IsTrue (has_key (found_after p start n) q) → IsTrue (has_key (reached p start) q)
    within_reached n q h = held_after p start (has_key (reached p start)) reached_reach.closed n q h

    longer_after : (n k : ℕ) → length (found_after p start n) ≤ length (found_after p start (k + n))
    longer_after n zero = rw zero-add (omega arith)
    longer_after n (suc k) =
        let rest = longer_after n k in
        let step = visited_longer p (found_after p start (k + n)) (k + n) in
        rw suc-add (omega (arith, rest, step))

    stays_from : (n : ℕ) → length (found_after p start n) ≤ n → (k : ℕ) → found_after p start (k + n) ≡ found_after p start n
    stays_from n short zero = rw zero-add refl
    stays_from n short (suc k) = rw suc-add (by (stays_from n short k))
      where
        by : found_after p start (k + n) ≡ found_after p start n → visited p (found_after p start (k + n)) (k + n) ≡ found_after p start n
        by h = rw (h, slice_get_past (found_after p start n) (k + n) (omega (arith, short))) refl

    -- what is reached is found once each of its keys is looked at
    pub reached_found : IsFound p start (reached p start)
    unfolding reached
    reached_found =
        let most : length (reached p start) ≤ length all = bounded (length all) in
        let e : (length all - length (reached p start)) + length (reached p start) ≡ length all = omega (arith, most) in
        let rest = longer_after (length (reached p start)) (length all - length (reached p start)) in
        let whole : found_after p start ((length all - length (reached p start)) + length (reached p start)) ≡ reached p start = ap (found_after p start) e in
        let short : length (found_after p start (length (reached p start))) ≤ length (reached p start) = omega (arith, rest, ap (λ (l : List KeyValue). length l) whole) in
        sym whole ∙ stays_from (length (reached p start)) short (length all - length (reached p start))
