-- What is carried along the edges reaches each place that reaches a marked one.
use Rattle.std.proofs.Common.{◌≡◌, ℕ, zero, suc, ◌<◌, ◌≤◌, ◌+◌, Bool, true, false, List, [], ◌∷◌, ◌++◌, length, get_or, drop, Option, None, Some, is_some}
use Rattle.std.proofs.Common.{refl, ap, sym, ◌∙◌, subst, ◌⊎◌, inl, inr, arith}
use Rattle.std.specs.List.{Contains}
use Rattle.std.proofs.lemmas.List.{drop_more}
use Rattle.std.proofs.lemmas.List.Elements.{Contains-push_cases, Contains-append_left, Contains-append_right, Contains-append_cases}
use Rattle.fhir_alike.specs.Spreading.{Edges, ReachesIn, Reaches, is_marked, ToldValue, told_at, tell_all, users_of, first_told, carry_mark, carry, IsSpread}
use Rattle.fhir_alike.proofs.Users.{users_lead, leads_users}
use Rattle.fhir_alike.proofs.Told.{Grows, nothing_in, is_there, there_is, grown_has, tell_all_grows, tell_all_cases, tell_all_has, first_count, first_found, first_own, first_waits}

-- something is told of each that leads to a place
abbrev pub AllTold : Edges → ToldValue → ℕ → Type 0
AllTold users t q = (u : ℕ) → u < length t.0 → Contains (get_or users q []) u → is_some (told_at t.0 u) ≡ true

-- what the loop keeps: of each place of which something is told, that is told to those that lead to it, or it waits
pub record IsCarried (edges : Edges) (marks : List Bool) (at : ℕ) (t : ToldValue) : Type 0 where
  pub count : length t.0 ≡ length edges
  pub found : (q x : ℕ) → told_at t.0 q ≡ Some x → Reaches edges q x × (is_marked marks x ≡ true)
  pub marked : (q : ℕ) → is_marked marks q ≡ true → told_at t.0 q ≡ Some q
  pub waits : (q x : ℕ) → told_at t.0 q ≡ Some x → AllTold (users_of edges) t q ⊎ Contains (drop at t.1) q

pub carried_first : (edges : Edges) (marks : List Bool) → length marks ≡ length edges → IsCarried edges marks 0 (first_told marks)
carried_first edges marks same = record {
  count = first_count marks ∙ same;
  found = λ q x h. let it = first_found marks q x h in ((0, sym it.0), it.1);
  marked = λ q e. first_own marks q e;
  waits = λ q x h. inr (first_waits marks q x h);
}

-- ---- one turn

drop_append : (n : ℕ) (xs ys : List ℕ) → n ≤ length xs → drop n (xs ++ ys) ≡ drop n xs ++ ys
drop_append zero xs ys h = refl
drop_append (suc n) [] ys h = absurd (omega arith)
drop_append (suc n) (x ∷ xs) ys h = drop_append n xs ys (omega arith)

-- what waits is the first, or waits behind it
behind_first : (queue : List ℕ) (at q : ℕ) → at < length queue → Contains (drop at queue) q
    → (get_or queue at 0 ≡ q) ⊎ Contains (drop (at + 1) queue) q
behind_first queue at q h there =
    let split : Contains (get_or queue at 0 ∷ drop (at + 1) queue) q = subst (λ xs. Contains xs q) (drop_more queue at 0 h) there in
    elim (Contains-append_cases (get_or queue at 0 ∷ []) (drop (at + 1) queue) q split) [
      | inl first ↦ elim (Contains-push_cases [] (get_or queue at 0) q first) [
        | inl nowhere ↦ absurd (nothing_in q nowhere)
        | inr e ↦ inl e
      ]
      | inr behind ↦ inr behind
    ]

all_told_more : (users : Edges) (a b : ToldValue) (q : ℕ) → Grows a b → AllTold users a q → AllTold users b q
all_told_more users a b q g h u within there = grown_has a b u g (h u (subst (λ n. u < n) g.count within) there)

-- where nothing is told of the place
carried_none : (edges : Edges) (marks : List Bool) (at : ℕ) (t : ToldValue) → IsCarried edges marks at t → at < length t.1
    → told_at t.0 (get_or t.1 at 0) ≡ None → IsCarried edges marks (at + 1) t
carried_none edges marks at t c h e = record {
  count = c.count;
  found = c.found;
  marked = c.marked;
  waits = λ q x there. elim (c.waits q x there) [
    | inl every ↦ inl every
    | inr waiting ↦ elim (behind_first t.1 at q h waiting) [
      | inl same ↦
          let none : told_at t.0 q ≡ None = subst (λ k. told_at t.0 k ≡ None) same e in
          let wrong : ⊥ = cc in
          absurd wrong
      | inr behind ↦ inr behind
    ]
  ];
}

-- a place that leads to one reaches what that reaches
reaches_more : (edges : Edges) (q next x : ℕ) → Contains (get_or edges q []) next → Reaches edges next x → Reaches edges q x
reaches_more edges q next x h r = (suc r.0, (next, h, r.1))

carried_some : (edges : Edges) (marks : List Bool) (at marked : ℕ) (t : ToldValue) → IsCarried edges marks at t → at < length t.1
    → told_at t.0 (get_or t.1 at 0) ≡ Some marked
    → IsCarried edges marks (at + 1) (tell_all (get_or (users_of edges) (get_or t.1 at 0) []) marked t)
carried_some edges marks at marked t c h e =
    let place : ℕ = get_or t.1 at 0 in
    let users : List ℕ = get_or (users_of edges) place [] in
    let t2 : ToldValue = tell_all users marked t in
    let g : Grows t t2 = tell_all_grows users marked t in
    let known : Reaches edges place marked × (is_marked marks marked ≡ true) = c.found place marked e in
    let fits : at + 1 ≤ length t.1 = omega arith in
    let rest : drop (at + 1) t2.1 ≡ drop (at + 1) t.1 ++ g.more = ap (drop (at + 1)) g.queue ∙ drop_append (at + 1) t.1 g.more fits in
    record {
      count = g.count ∙ c.count;
      found = λ q x there. elim (tell_all_cases users marked t q x there) [
        | inl old ↦ c.found q x old
        | inr new ↦
            let leads : Contains (get_or edges q []) place = users_lead edges place q new.0 in (
              subst (Reaches edges q) (sym new.1) (reaches_more edges q place marked leads known.0),
              subst (λ k. is_marked marks k ≡ true) (sym new.1) known.1,
            )
      ];
      marked = λ q is. g.keeps q q (c.marked q is);
      waits = λ q x there. elim (g.fresh q x there) [
        | inl old ↦ elim (c.waits q x old) [
          | inl every ↦ inl (all_told_more (users_of edges) t t2 q g every)
          | inr waiting ↦ elim (behind_first t.1 at q h waiting) [
            | inl same ↦ inl (subst (AllTold (users_of edges) t2) same
                (λ u within there. tell_all_has users marked t u there (subst (λ n. u < n) g.count within)))
            | inr behind ↦ inr (subst (λ xs. Contains xs q) (sym rest) (Contains-append_left (drop (at + 1) t.1) g.more q behind))
          ]
        ]
        | inr new ↦ inr (subst (λ xs. Contains xs q) (sym rest) (Contains-append_right (drop (at + 1) t.1) g.more q new))
      ];
    }

pub carried_turn : (edges : Edges) (marks : List Bool) (at : ℕ) (t t2 : ToldValue) → IsCarried edges marks at t → at < length t.1
    → t2 ≡ carry (users_of edges) (get_or t.1 at 0) t → IsCarried edges marks (at + 1) t2
carried_turn edges marks at t t2 c h now = subst (IsCarried edges marks (at + 1)) (sym now) (go (told_at t.0 (get_or t.1 at 0)) refl)
  where
    go : (o : Option ℕ) → told_at t.0 (get_or t.1 at 0) ≡ o
        → IsCarried edges marks (at + 1) (carry_mark (get_or (users_of edges) (get_or t.1 at 0) []) o t)
    go None e = carried_none edges marks at t c h e
    go (Some marked) e = carried_some edges marks at marked t c h e

-- ---- at the end

drop_all : (n : ℕ) (xs : List ℕ) → length xs ≤ n → drop n xs ≡ []
drop_all zero [] h = refl
drop_all zero (x ∷ xs) h = absurd (omega arith)
drop_all (suc n) [] h = refl
drop_all (suc n) (x ∷ xs) h = drop_all n xs (omega arith)

-- a place that leads anywhere is one of the places
leads_within : (edges : Edges) (q x : ℕ) → Contains (get_or edges q []) x → q < length edges
leads_within [] q x h = absurd (nothing_in x h)
leads_within (e ∷ es) zero x h = omega arith
leads_within (e ∷ es) (suc q) x h = let less = leads_within es q x h in omega (arith, less)

told_within : (told : List (Option ℕ)) (q x : ℕ) → told_at told q ≡ Some x → q < length told
told_within [] q x h = cc
told_within (m ∷ told) zero x h = omega arith
told_within (m ∷ told) (suc q) x h = let less = told_within told q x h in omega (arith, less)

IsClosed : Edges → ToldValue → Type 0
IsClosed edges t = (q x : ℕ) → told_at t.0 q ≡ Some x → AllTold (users_of edges) t q

-- something is told of each from which a chain leads to one of which something is told
told_back : (edges : Edges) (t : ToldValue) → length t.0 ≡ length edges → IsClosed edges t → (n source to : ℕ) → ReachesIn n edges source to
    → is_some (told_at t.0 to) ≡ true → is_some (told_at t.0 source) ≡ true
unfolding IsClosed
told_back edges t count closed zero source to r h = subst (λ k. is_some (told_at t.0 k) ≡ true) (sym r) h
told_back edges t count closed (suc n) source to r h =
    let next : ℕ = r.0 in
    let it = is_there (told_at t.0 next) (told_back edges t count closed n next to r.2 h) in
    let within : next < length edges = subst (λ k. next < k) count (told_within t.0 next it.0 it.1) in
    let place : source < length t.0 = subst (λ k. source < k) (sym count) (leads_within edges source next r.1) in
    closed next it.0 it.1 source place (leads_users edges next source within r.1)

pub carried_last : (edges : Edges) (marks : List Bool) (at : ℕ) (t : ToldValue) → IsCarried edges marks at t → length t.1 ≤ at
    → IsSpread edges marks t.0
unfolding IsClosed
carried_last edges marks at t c h = record { count = c.count; found = c.found; own = c.marked; none = λ q x e r. unmarked q x e r (is_marked marks x) refl }
  where
    every : IsClosed edges t
    every q x e = elim (c.waits q x e) [
      | inl them ↦ them
      | inr waiting ↦ absurd (nothing_in q (subst (λ xs. Contains xs q) (drop_all at t.1 h) waiting))
    ]

    unmarked : (q x : ℕ) → told_at t.0 q ≡ None → Reaches edges q x → (b : Bool) → is_marked marks x ≡ b → is_marked marks x ≡ false
    unmarked q x e r false is = is
    unmarked q x e r true is =
        let marked : is_some (told_at t.0 x) ≡ true = there_is (told_at t.0 x) x (c.marked x is) in
        let told = is_there (told_at t.0 q) (told_back edges t c.count every r.0 q x r.1 marked) in
        let wrong : ⊥ = cc in
        absurd wrong
