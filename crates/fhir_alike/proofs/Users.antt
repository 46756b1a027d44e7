-- Who leads to a place.
use Rattle.std.proofs.Common.{◌≡◌, ℕ, zero, suc, ◌<◌, ◌+◌, List, [], ◌∷◌, length, get_or, drop, replicate, Vec, refl, ap, sym, ◌∙◌, subst, ◌⊎◌, inl, inr, arith, Some, add-one}
use Rattle.std.specs.List.{Contains}
use Rattle.std.specs.declared.alloc.Global.{Global}
use Rattle.std.proofs.lemmas.List.{drop_more}
use Rattle.std.proofs.lemmas.List.Elements.{Contains-push, Contains-push_cases, Contains-append_left, Contains-append_right, Contains-append_cases}
use Rattle.fhir_definition.specs.Gathering.{put_at}
use Rattle.fhir_definition.specs.Views.{lists_in}
use Rattle.fhir_alike.specs.Spreading.{Edges, users_under, users_from, users_of}

-- ---- one turn of a loop

pub under_turn : (ats : List ℕ) (i place d : ℕ) (old new all : Edges) → i < length ats → users_under (drop i ats) place old ≡ all
    → new ≡ put_at (Some (get_or ats i d)) place old → users_under (drop (i + 1) ats) place new ≡ all
under_turn ats i place d old new all h was now =
    ap (users_under (drop (i + 1) ats) place) now ∙ sym (ap (λ xs. users_under xs place old) (drop_more ats i d h)) ∙ was

pub from_turn : (edges : List (Vec ℕ Global)) (i : ℕ) (d : Vec ℕ Global) (old new all : Edges) → i < length edges
    → users_from i (lists_in (drop i edges)) old ≡ all → new ≡ users_under (get_or edges i d).items i old
    → users_from (i + 1) (lists_in (drop (i + 1) edges)) new ≡ all
from_turn edges i d old new all h was now =
    let next : i + 1 ≡ suc i = add-one i in
    ap (λ k. users_from k (lists_in (drop (i + 1) edges)) new) next
    ∙ ap (users_from (suc i) (lists_in (drop (i + 1) edges))) now
    ∙ sym (ap (λ xs. users_from i (lists_in xs) old) (drop_more edges i d h))
    ∙ was

-- ---- who is put in

nothing_in : (k : ℕ) → Contains [] k → ⊥
nothing_in k h = omega (arith, h.1)

empty_at : (n q k : ℕ) → Contains (get_or (replicate n []) q []) k → ⊥
empty_at zero q k h = nothing_in k h
empty_at (suc n) zero k h = nothing_in k h
empty_at (suc n) (suc q) k h = empty_at n q k h

-- what stands in the list at a place after another was put in somewhere
put_cases : (us : Edges) (at place q u : ℕ) → Contains (get_or (put_at (Some at) place us) q []) u
    → Contains (get_or us q []) u ⊎ ((u ≡ place) × (at ≡ q))
put_cases [] at place q u h = inl h
put_cases (x ∷ us) zero place zero u h =
    elim (Contains-push_cases x place u h) [ inl there ↦ inl there | inr e ↦ inr (sym e, refl) ]
put_cases (x ∷ us) zero place (suc q) u h = inl h
put_cases (x ∷ us) (suc at) place zero u h = inl h
put_cases (x ∷ us) (suc at) place (suc q) u h =
    elim (put_cases us at place q u h) [ inl there ↦ inl there | inr e ↦ inr (e.0, ap suc e.1) ]

put_keeps : (us : Edges) (at place q u : ℕ) → Contains (get_or us q []) u → Contains (get_or (put_at (Some at) place us) q []) u
put_keeps [] at place q u h = h
put_keeps (x ∷ us) zero place zero u h = Contains-append_left x (place ∷ []) u h
put_keeps (x ∷ us) zero place (suc q) u h = h
put_keeps (x ∷ us) (suc at) place zero u h = h
put_keeps (x ∷ us) (suc at) place (suc q) u h = put_keeps us at place q u h

put_has : (us : Edges) (at place : ℕ) → at < length us → Contains (get_or (put_at (Some at) place us) at []) place
put_has [] at place h = absurd (omega arith)
put_has (x ∷ us) zero place h = Contains-push x place
put_has (x ∷ us) (suc at) place h = put_has us at place (omega arith)

put_length : (us : Edges) (at place : ℕ) → length (put_at (Some at) place us) ≡ length us
put_length [] at place = refl
put_length (x ∷ us) zero place = refl
put_length (x ∷ us) (suc at) place = ap suc (put_length us at place)

-- the same of some places
under_cases : (ats : List ℕ) (place : ℕ) (us : Edges) (q u : ℕ) → Contains (get_or (users_under ats place us) q []) u
    → Contains (get_or us q []) u ⊎ ((u ≡ place) × Contains ats q)
under_cases [] place us q u h = inl h
under_cases (at ∷ ats) place us q u h =
    elim (under_cases ats place (put_at (Some at) place us) q u h) [
      | inl there ↦ elim (put_cases us at place q u there) [
        | inl old ↦ inl old
        | inr e ↦ inr (e.0, subst (Contains (at ∷ ats)) e.1 (Contains-append_left (at ∷ []) ats at (Contains-push [] at)))
      ]
      | inr e ↦ inr (e.0, Contains-append_right (at ∷ []) ats q e.1)
    ]

under_keeps : (ats : List ℕ) (place : ℕ) (us : Edges) (q u : ℕ) → Contains (get_or us q []) u → Contains (get_or (users_under ats place us) q []) u
under_keeps [] place us q u h = h
under_keeps (at ∷ ats) place us q u h = under_keeps ats place (put_at (Some at) place us) q u (put_keeps us at place q u h)

under_length : (ats : List ℕ) (place : ℕ) (us : Edges) → length (users_under ats place us) ≡ length us
under_length [] place us = refl
under_length (at ∷ ats) place us = under_length ats place (put_at (Some at) place us) ∙ put_length us at place

under_has : (ats : List ℕ) (place : ℕ) (us : Edges) (q : ℕ) → q < length us → Contains ats q
    → Contains (get_or (users_under ats place us) q []) place
under_has [] place us q h there = absurd (nothing_in q there)
under_has (at ∷ ats) place us q h there =
    elim (Contains-append_cases (at ∷ []) ats q there) [
      | inl first ↦ elim (Contains-push_cases [] at q first) [
        | inl nowhere ↦ absurd (nothing_in q nowhere)
        | inr e ↦
            let within : at < length us = subst (λ k. k < length us) (sym e) h in
            under_keeps ats place (put_at (Some at) place us) q place
            (subst (λ k. Contains (get_or (put_at (Some at) place us) k []) place) e (put_has us at place within))
      ]
      | inr behind ↦
          under_has ats place (put_at (Some at) place us) q (subst (λ n. q < n) (sym (put_length us at place)) h) behind
    ]

-- the same of all of them
Leads : ℕ → Edges → ℕ → ℕ → Type 0
Leads i es u q = (j : ℕ) × (u ≡ i + j) × Contains (get_or es j []) q

from_cases : (i : ℕ) (es us : Edges) (q u : ℕ) → Contains (get_or (users_from i es us) q []) u → Contains (get_or us q []) u ⊎ Leads i es u q
unfolding Leads
from_cases i [] us q u h = inl h
from_cases i (e ∷ es) us q u h =
    elim (from_cases (suc i) es (users_under e i us) q u h) [
      | inl there ↦ elim (under_cases e i us q u there) [
        | inl old ↦ inl old
        | inr it ↦ inr (0, omega (arith, it.0), it.1)
      ]
      | inr later ↦ inr (suc later.0, omega (arith, later.1), later.2)
    ]

from_keeps : (i : ℕ) (es us : Edges) (q u : ℕ) → Contains (get_or us q []) u → Contains (get_or (users_from i es us) q []) u
from_keeps i [] us q u h = h
from_keeps i (e ∷ es) us q u h = from_keeps (suc i) es (users_under e i us) q u (under_keeps e i us q u h)

from_has : (i : ℕ) (es us : Edges) (q j : ℕ) → q < length us → Contains (get_or es j []) q → Contains (get_or (users_from i es us) q []) (i + j)
from_has i [] us q j h there = absurd (nothing_in q there)
from_has i (e ∷ es) us q zero h there =
    let here : i ≡ i + 0 = omega arith in
    subst (Contains (get_or (users_from (suc i) es (users_under e i us)) q [])) here
    (from_keeps (suc i) es (users_under e i us) q i (under_has e i us q h there))
from_has i (e ∷ es) us q (suc j) h there =
    let next : suc i + j ≡ i + suc j = omega arith in
    subst (Contains (get_or (users_from (suc i) es (users_under e i us)) q [])) next
    (from_has (suc i) es (users_under e i us) q j (subst (λ n. q < n) (sym (under_length e i us)) h) there)

length_empty : (n : ℕ) (xs : List ℕ) → length (replicate n xs) ≡ n
length_empty zero xs = refl
length_empty (suc n) xs = ap suc (length_empty n xs)

-- who is told to lead to a place does
pub users_lead : (edges : Edges) (q u : ℕ) → Contains (get_or (users_of edges) q []) u → Contains (get_or edges u []) q
unfolding Leads
users_lead edges q u h =
    elim (from_cases 0 edges (replicate (length edges) []) q u h) [
      | inl nowhere ↦ absurd (empty_at (length edges) q u nowhere)
      | inr it ↦
          let same : it.0 ≡ u = omega (arith, it.1) in
          subst (λ k. Contains (get_or edges k []) q) same it.2
    ]

-- and each that leads to one of the places is told
pub leads_users : (edges : Edges) (q u : ℕ) → q < length edges → Contains (get_or edges u []) q → Contains (get_or (users_of edges) q []) u
leads_users edges q u h there =
    let same : 0 + u ≡ u = omega arith in
    subst (Contains (get_or (users_of edges) q [])) same
    (from_has 0 edges (replicate (length edges) []) q u (subst (λ n. q < n) (sym (length_empty (length edges) [])) h) there)
