-- One more element under the place under which it stands.
use Rattle.std.proofs.Common.{◌≡◌, ℕ, zero, suc, ◌<◌, ◌+◌, true, false, cond, List, [], ◌∷◌, ◌++◌, length, take, get_or, set, replicate, nat_eq, Vec, refl, ap}
use Rattle.std.proofs.Common.{sym, ◌∙◌, Some, None, Option, arith}
use Rattle.std.proofs.lemmas.Bool.Decides.{nat_tests}
use Rattle.std.proofs.lemmas.List.{take_more, map-set}
use Rattle.fhir_definition.specs.Snapshot.{is_at}
use Rattle.fhir_definition.specs.Children.{under_from, under_each_from}
use Rattle.std.specs.declared.alloc.Global.{Global}
use Rattle.fhir_definition.specs.Gathering.{put_at}
use Rattle.fhir_definition.specs.Views.{lists_in}

pub gathered_none : (p n : ℕ) → under_each_from p n [] ≡ replicate n []
gathered_none p zero = refl
gathered_none p (suc n) = ap (λ l. [] ∷ l) (gathered_none (suc p) n)

under_other : (p i : ℕ) (us : List (Option ℕ)) (u : Option ℕ) → is_at p u ≡ false → under_from p i (us ++ u ∷ []) ≡ under_from p i us
under_other p i [] u e = rw e refl
under_other p i (v ∷ us) u e =
    let rest = under_other p (suc i) us u e in
    elim (is_at p v) as
    (λ b. cond b (i ∷ under_from p (suc i) (us ++ u ∷ [])) (under_from p (suc i) (us ++ u ∷ []))
    ≡ cond b (i ∷ under_from p (suc i) us) (under_from p (suc i) us))
    [ true ↦ ap (λ l. i ∷ l) rest | false ↦ rest ]

under_this : (p i : ℕ) (us : List (Option ℕ)) (u : Option ℕ) (n : ℕ) → is_at p u ≡ true → i + length us ≡ n
    → under_from p i (us ++ u ∷ []) ≡ under_from p i us ++ n ∷ []
under_this p i [] u n e h =
    let here : i ≡ n = omega arith in
    rw e (ap (λ k. k ∷ []) here)
under_this p i (v ∷ us) u n e h =
    let next : suc i + length us ≡ n = omega arith in
    let rest = under_this p (suc i) us u n e next in
    elim (is_at p v) as
    (λ b. cond b (i ∷ under_from p (suc i) (us ++ u ∷ [])) (under_from p (suc i) (us ++ u ∷ []))
    ≡ cond b (i ∷ under_from p (suc i) us) (under_from p (suc i) us) ++ n ∷ [])
    [ true ↦ ap (λ l. i ∷ l) rest | false ↦ rest ]

differs : (p r : ℕ) → r < p → nat_eq p r ≡ false
differs p r h = grind (arith, nat_tests)

differs_below : (p r : ℕ) → p < r → nat_eq p r ≡ false
differs_below p r h = grind (arith, nat_tests)

is_same : (p r : ℕ) → r ≡ p → nat_eq p r ≡ true
is_same p r h = grind (arith, nat_tests)

gathered_past : (p n r : ℕ) (us : List (Option ℕ)) → r < p → under_each_from p n (us ++ Some r ∷ []) ≡ under_each_from p n us
gathered_past p zero r us h = refl
gathered_past p (suc n) r us h =
    let more : r < suc p = omega arith in
    rw (under_other p 0 us (Some r) (differs p r h)) (ap (λ l. under_from p 0 us ∷ l) (gathered_past (suc p) n r us more))

gathered_at : (p q n r i : ℕ) (us : List (Option ℕ)) → r ≡ p + q → length us ≡ i
    → under_each_from p n (us ++ Some r ∷ []) ≡ put_at (Some q) i (under_each_from p n us)
gathered_at p q zero r i us e h = refl
gathered_at p zero (suc n) r i us e h =
    let here : r ≡ p = omega arith in
    let past : r < suc p = omega arith in
    let at : 0 + length us ≡ i = omega arith in
    rw (under_this p 0 us (Some r) i (is_same p r here) at) (ap (λ l. (under_from p 0 us ++ i ∷ []) ∷ l) (gathered_past (suc p) n r us past))
gathered_at p (suc q) (suc n) r i us e h =
    let below : p < r = omega arith in
    let next : r ≡ suc p + q = omega arith in
    rw (under_other p 0 us (Some r) (differs_below p r below)) (ap (λ l. under_from p 0 us ∷ l) (gathered_at (suc p) q n r i us next h))

gathered_same : (p n : ℕ) (us : List (Option ℕ)) → under_each_from p n (us ++ None ∷ []) ≡ under_each_from p n us
gathered_same p zero us = refl
gathered_same p (suc n) us =
    rw (under_other p 0 us None refl) (ap (λ l. under_from p 0 us ∷ l) (gathered_same (suc p) n us))

pub gathered_more : (n : ℕ) (us : List (Option ℕ)) (u : Option ℕ) (i : ℕ) → length us ≡ i
    → under_each_from 0 n (us ++ u ∷ []) ≡ put_at u i (under_each_from 0 n us)
gathered_more n us None i h = gathered_same 0 n us
gathered_more n us (Some q) i h =
    let e : q ≡ 0 + q = omega arith in
    gathered_at 0 q n q i us e h

-- one turn of the loop
pub gathered_turn : (n : ℕ) (ups : List (Option ℕ)) (i : ℕ) (d : Option ℕ) (old new : List (List ℕ)) → i < length ups → length (take i ups) ≡ i
    → old ≡ under_each_from 0 n (take i ups) → new ≡ put_at (get_or ups i d) i old → new ≡ under_each_from 0 n (take (i + 1) ups)
gathered_turn n ups i d old new h len was now =
    now ∙ ap (put_at (get_or ups i d) i) was ∙ sym (gathered_more n (take i ups) (get_or ups i d) i len) ∙ sym (ap (under_each_from 0 n) (take_more ups i d h))

-- ---- lists behind vectors

get_or-lists : (vs : List (Vec ℕ Global)) (at : ℕ) (v : Vec ℕ Global) → at < length vs → get_or (lists_in vs) at [] ≡ (get_or vs at v).items
get_or-lists [] at v h = absurd (omega arith)
get_or-lists (x ∷ xs) zero v h = refl
get_or-lists (x ∷ xs) (suc at) v h = let less : at < length xs = omega arith in get_or-lists xs at v less

pub put_there : (vs : List (Vec ℕ Global)) (at place : ℕ) (old new : Vec ℕ Global) → at < length vs → old ≡ get_or vs at old
    → new.items ≡ old.items ++ place ∷ [] → lists_in (set vs at new) ≡ put_at (Some at) place (lists_in vs)
put_there vs at place old new h is more =
    let there : get_or (lists_in vs) at [] ≡ old.items = get_or-lists vs at old h ∙ ap (λ v. v.items) (sym is) in
    let now : new.items ≡ get_or (lists_in vs) at [] ++ place ∷ [] = more ∙ ap (λ l. l ++ place ∷ []) (sym there) in
    map-set (λ v. v.items) vs at new ∙ ap (set (lists_in vs) at) now
