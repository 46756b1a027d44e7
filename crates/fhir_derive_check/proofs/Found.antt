-- What a discovery finds: with each pair all that it asks for, each pair once.
use Rattle.std.proofs.Common.{◌≡◌, ◌<◌, ◌≤◌, ◌+◌, ℕ, arith, Bool, true, false, List, [], ◌∷◌, ◌++◌, refl, sym, ap, subst, ◌∙◌, ◌⊎◌, inl, inr, IsTrue, ◌||◌, not, cond, filter, length, take, append_assoc, length-append, add-one, get_or}
use Rattle.std.specs.Prelude.{if◌then◌else◌, Some, slice_get}
use Rattle.std.proofs.Math.Seq.{take-suc}
use Rattle.std.proofs.lemmas.Grind.{flat_map-append}
use Rattle.std.proofs.lemmas.List.{take_all, take-append-le}
use Rattle.std.proofs.lemmas.Option.{same_Some, slice_get_within, slice_get-get_or}
use Rattle.std.specs.List.{flat_map}
use Rattle.std.proofs.lemmas.Bool.{and_parts, and_from, or_cases, or_left, or_right, false≢true, cases_Bool}
use Rattle.fhir_schema.specs.Schemas.{SchemaValue}
use Rattle.fhir_certificate.specs.declared.pair.Pair.{Pair}
use Rattle.fhir_cert_check.specs.PairSet.{same_pair}
use Rattle.fhir_derive_check.specs.Finding.{is_in, added, all_added, firsts, IsFound, IsDiscovery}
use Rattle.fhir_derive_check.specs.Deriving.{none_twice}
use Rattle.fhir_derive_check.specs.Discovering.{follows}
use Rattle.fhir_derive_check.specs.declared.discovery.Follow.TheVariants.{All}
use Rattle.fhir_derive_check.proofs.Same.{kept-in, in-place, same-true, same-of, in-append, in-left, in-right, in-cases, in-one, in-here, contained, in-contained, in-flat}

pub append_nil : {A : Type 0} (xs : List A) → xs ++ [] ≡ xs
append_nil [] = refl
append_nil (x ∷ xs) = ap (λ ys. x ∷ ys) (append_nil xs)

-- ---- pairs behind others

-- where it isn't one of them, it is put behind them
pub added-new : (seen : List Pair) (p : Pair) → is_in seen p ≡ false → added seen p ≡ seen ++ p ∷ []
added-new seen p e = ap (λ b. if b then seen else seen ++ p ∷ []) e

pub added-old : (seen : List Pair) (p : Pair) → is_in seen p ≡ true → added seen p ≡ seen
added-old seen p e = ap (λ b. if b then seen else seen ++ p ∷ []) e

added-more : (seen : List Pair) (p : Pair) → (more : List Pair) × (added seen p ≡ seen ++ more)
added-more seen p = go (is_in seen p)
  where
    go : (b : Bool) → (more : List Pair) × ((if b then seen else seen ++ p ∷ []) ≡ seen ++ more)
    go true = ([], sym (append_nil seen))
    go false = (p ∷ [], refl)

pub all_added-more : (ps seen : List Pair) → (more : List Pair) × (all_added seen ps ≡ seen ++ more)
all_added-more [] seen = ([], sym (append_nil seen))
all_added-more (p ∷ ps) seen =
    let a = added-more seen p in
    let b = all_added-more ps (added seen p) in
    (a.0 ++ b.0, b.1 ∙ ap (λ l. l ++ b.0) a.1 ∙ append_assoc seen a.0 b.0)

pub all_added-append : (ps qs seen : List Pair) → all_added seen (ps ++ qs) ≡ all_added (all_added seen ps) qs
all_added-append [] qs seen = refl
all_added-append (p ∷ ps) qs seen = all_added-append ps qs (added seen p)

in-added : (seen : List Pair) (p : Pair) → IsTrue (is_in (added seen p) p)
in-added seen p =
    elim (cases_Bool (is_in seen p)) [
      | inl here ↦ subst (λ l. IsTrue (is_in l p)) (sym (added-old seen p here)) here
      | inr gone ↦ subst (λ l. IsTrue (is_in l p)) (sym (added-new seen p gone)) (in-right seen (p ∷ []) p (in-here p []))
    ]

pub kept-all : (ps seen : List Pair) (q : Pair) → IsTrue (is_in seen q) → IsTrue (is_in (all_added seen ps) q)
kept-all ps seen q h = let m = all_added-more ps seen in subst (λ l. IsTrue (is_in l q)) (sym m.1) (in-left seen m.0 q h)

pub in-all : (ps seen : List Pair) (q : Pair) → IsTrue (is_in ps q) → IsTrue (is_in (all_added seen ps) q)
in-all [] seen q h = absurd (false≢true h)
in-all (p ∷ ps) seen q h =
    elim (or_cases (same_pair q p) (is_in ps q) h) [
      | inl here ↦ kept-all ps (added seen p) q (subst (λ x. IsTrue (is_in (added seen p) x)) (sym (same-true q p here)) (in-added seen p))
      | inr there ↦ in-all ps (added seen p) q there
    ]

only-added : (seen : List Pair) (p q : Pair) → IsTrue (is_in (added seen p) q) → IsTrue (is_in seen q) ⊎ (q ≡ p)
only-added seen p q h =
    elim (cases_Bool (is_in seen p)) [
      | inl here ↦ inl (subst (λ l. IsTrue (is_in l q)) (added-old seen p here) h)
      | inr gone ↦ elim (in-cases seen (p ∷ []) q (subst (λ l. IsTrue (is_in l q)) (added-new seen p gone) h)) [
        | inl old ↦ inl old
        | inr new ↦ inr (in-one q p new)
      ]
    ]

pub only-all : (ps seen : List Pair) (q : Pair) → IsTrue (is_in (all_added seen ps) q) → IsTrue (is_in seen q) ⊎ IsTrue (is_in ps q)
only-all [] seen q h = inl h
only-all (p ∷ ps) seen q h =
    elim (only-all ps (added seen p) q h) [
      | inl old ↦ elim (only-added seen p q old) [
        | inl older ↦ inl older
        | inr same ↦ inr (or_left (same_pair q p) (is_in ps q) (same-of q p same))
      ]
      | inr new ↦ inr (or_right (same_pair q p) (is_in ps q) new)
    ]

-- ---- each once

none_twice-one : (ps : List Pair) (p : Pair) → is_in ps p ≡ false → none_twice ps ≡ true → none_twice (ps ++ p ∷ []) ≡ true
none_twice-one [] p gone once = refl
none_twice-one (x ∷ xs) p gone once =
    let parts = and_parts (not (is_in xs x)) (none_twice xs) once in
    let apart = neither (same_pair p x) (is_in xs p) gone in
    let apart' : same_pair x p ≡ false = elim (cases_Bool (same_pair x p)) [
      | inl same ↦ absurd (false≢true (sym apart.0 ∙ same-of p x (sym (same-true x p same))))
      | inr other ↦ other
    ]
    in
    and_from (not (is_in (xs ++ p ∷ []) x)) _
    (ap not (in-append xs (p ∷ []) x ∙ (λ j. is_in xs x || (apart' j || false)) ∙ or_false (is_in xs x)) ∙ parts.0)
    (none_twice-one xs p apart.1 parts.1)
  where
    neither : (a b : Bool) → (a || b) ≡ false → (a ≡ false) × (b ≡ false)
    neither true b e = absurd (false≢true (sym e))
    neither false b e = (refl, e)

    or_false : (a : Bool) → (a || false) ≡ a
    or_false true = refl
    or_false false = refl

none_twice-added : (seen : List Pair) (p : Pair) → none_twice seen ≡ true → none_twice (added seen p) ≡ true
none_twice-added seen p once =
    elim (cases_Bool (is_in seen p)) [
      | inl here ↦ ap none_twice (added-old seen p here) ∙ once
      | inr gone ↦ ap none_twice (added-new seen p gone) ∙ none_twice-one seen p gone once
    ]

none_twice-all : (ps seen : List Pair) → none_twice seen ≡ true → none_twice (all_added seen ps) ≡ true
none_twice-all [] seen once = once
none_twice-all (p ∷ ps) seen once = none_twice-all ps (added seen p) (none_twice-added seen p once)

-- in a list that has none twice, what stands in front doesn't stand behind
pub none_twice-apart : (ps qs : List Pair) (q : Pair) → none_twice (ps ++ qs) ≡ true → IsTrue (is_in ps q) → IsTrue (is_in qs q) → ⊥
none_twice-apart [] qs q once front back = false≢true front
none_twice-apart (p ∷ ps) qs q once front back =
    let parts = and_parts (not (is_in (ps ++ qs) p)) (none_twice (ps ++ qs)) once in
    elim (or_cases (same_pair q p) (is_in ps q) front) [
      | inl here ↦ false≢true (sym (ap not (in-right ps qs p (subst (λ x. IsTrue (is_in qs x)) (same-true q p here) back))) ∙ parts.0)
      | inr there ↦ none_twice-apart ps qs q parts.1 there back
    ]

pub none_twice-filter : (keep : Pair → Bool) (ps : List Pair) → none_twice ps ≡ true → none_twice (filter keep ps) ≡ true
none_twice-filter keep [] once = refl
none_twice-filter keep (p ∷ ps) once =
    let parts = and_parts (not (is_in ps p)) (none_twice ps) once in
    go (keep p) parts.0 (none_twice-filter keep ps parts.1)
  where
    go : (b : Bool) → not (is_in ps p) ≡ true → none_twice (filter keep ps) ≡ true → none_twice (cond b (p ∷ filter keep ps) (filter keep ps)) ≡ true
    go true apart rest = and_from (not (is_in (filter keep ps) p)) _ (fewer (cases_Bool (is_in (filter keep ps) p))) rest
      where
        fewer : (is_in (filter keep ps) p ≡ true) ⊎ (is_in (filter keep ps) p ≡ false) → not (is_in (filter keep ps) p) ≡ true
        fewer (inl here) = absurd (false≢true (ap not (sym (kept-in keep ps p here).1) ∙ apart))
        fewer (inr gone) = ap not gone
    go false apart rest = rest

-- ---- discoveries

module _ (asks : Pair → List Pair) (root : Pair) where
  -- what is found once the pairs in front have been visited
  abbrev pub reach : List Pair → List Pair
  reach front = firsts (root ∷ flat_map asks front)

  pub root-reached : (front : List Pair) → IsTrue (is_in (reach front) root)
  root-reached front = kept-all (flat_map asks front) (root ∷ []) root (in-here root [])

  pub asked-reached : (front : List Pair) (p q : Pair) → IsTrue (is_in front p) → IsTrue (is_in (asks p) q) → IsTrue (is_in (reach front) q)
  asked-reached front p q h asked = in-all (flat_map asks front) (root ∷ []) q (in-flat asks front p q h asked)

  module _ (found : List Pair) (discovery : IsDiscovery asks root found) where
    pub root-found : IsTrue (is_in found root)
    root-found = subst (λ l. IsTrue (is_in l root)) (sym discovery.in_turn) (root-reached found)

    pub closed : (p q : Pair) → IsTrue (is_in found p) → IsTrue (is_in (asks p) q) → IsTrue (is_in found q)
    closed p q h asked = subst (λ l. IsTrue (is_in l q)) (sym discovery.in_turn) (asked-reached found p q h asked)

    pub found-once : none_twice found ≡ true
    found-once = ap none_twice discovery.in_turn ∙ none_twice-all (flat_map asks found) (root ∷ []) refl

    pub is-found : (p : Pair) → IsTrue (is_in found p) → IsFound asks root p
    is-found p h = discovery.each p (contained found p h)

  -- ---- the search

  -- the pairs in front of a place have been visited
  pub record IsSearch (order : List Pair) (at : ℕ) : Type 0 where
    pub in_turn : order ≡ reach (take at order)
    pub each : (p : Pair) → IsTrue (is_in order p) → IsFound asks root p
    pub within : at ≤ length order

  pub search-start : IsSearch (root ∷ []) 0
  search-start = record {
    in_turn = refl;
    each = λ p h set all. subst (λ q. IsTrue (set q)) (sym (in-one p root h)) all.rooted;
    within = omega arith;
  }

  pub search-step : (order : List Pair) (at : ℕ) (p : Pair) → slice_get order at ≡ Some p → IsSearch order at → IsSearch (all_added order (asks p)) (at + 1)
  search-step order at p here search =
      let below = slice_get_within order at p here in
      let more = all_added-more (asks p) order in
      let front : take (at + 1) (all_added order (asks p)) ≡ take at order ++ p ∷ [] =
      ap (take (at + 1)) more.1 ∙ take-append-le (at + 1) order more.0 (omega (arith, below)) ∙ ap (λ k. take k order) (add-one at) ∙ take-suc order at p below
      ∙ ap (λ x. take at order ++ x ∷ []) (same_Some _ p (sym (slice_get-get_or order at p below) ∙ here))
      in
      record {
        in_turn =
            ap (λ l. all_added l (asks p)) search.in_turn
            ∙ sym (all_added-append (flat_map asks (take at order)) (asks p) (root ∷ []))
            ∙ ap (all_added (root ∷ [])) (ap (λ l. flat_map asks (take at order) ++ l) (sym (append_nil (asks p))) ∙ sym (flat_map-append asks (take at order) (p ∷ [])))
            ∙ ap reach (sym front);
        each = λ q h. elim (only-all (asks p) order q h) [
          | inl old ↦ search.each q old
          | inr new ↦ λ set all. all.closed p q (search.each p (in-place order at p here) set all) (contained (asks p) q new)
        ];
        within = omega (arith, below, ap length more.1, length-append order more.0);
      }

  pub search-end : (order : List Pair) (at : ℕ) → length order ≤ at → IsSearch order at → IsDiscovery asks root order
  search-end order at over search = record {
    in_turn = search.in_turn ∙ ap reach (take_all at order over);
    each = λ p h. search.each p (in-contained order p h);
  }

-- ---- the steps of loops

pub filter-all : (s : SchemaValue) (asker : Pair) (ps : List Pair) → filter (follows All s asker) ps ≡ ps
filter-all s asker [] = refl
filter-all s asker (p ∷ ps) = ap (λ l. p ∷ l) (filter-all s asker ps)

pub all_added-next : (ps seen : List Pair) (i : ℕ) (d : Pair) → i < length ps → all_added seen (take (i + 1) ps) ≡ added (all_added seen (take i ps)) (get_or ps i d)
all_added-next ps seen i d below =
    ap (λ k. all_added seen (take k ps)) (add-one i) ∙ ap (all_added seen) (take-suc ps i d below) ∙ all_added-append (take i ps) (get_or ps i d ∷ []) seen
