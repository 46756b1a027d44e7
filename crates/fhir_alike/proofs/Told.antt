-- What is told of a place stays.
use Rattle.std.proofs.Common.{◌≡◌, ℕ, zero, suc, ◌<◌, ◌+◌, Bool, true, false, List, [], ◌∷◌, ◌++◌, length, get_or, set, drop, replicate, Option, None, Some, is_some, if◌then◌else◌}
use Rattle.std.proofs.Common.{refl, ap, sym, ◌∙◌, subst, ◌⊎◌, inl, inr, arith, append_assoc, add-one}
use Rattle.std.specs.List.{Contains}
use Rattle.std.proofs.lemmas.List.{drop_more}
use Rattle.std.proofs.lemmas.List.Elements.{Contains-push, Contains-push_cases, Contains-append_left, Contains-append_right, Contains-append_cases}
use Rattle.fhir_alike.specs.Spreading.{ToldValue, told_at, is_marked, is_untold, tell, tell_all, tell_if, tell_marked, first_told}

pub nothing_in : (k : ℕ) → Contains [] k → ⊥
nothing_in k h = omega (arith, h.1)

pub is_there : (o : Option ℕ) → is_some o ≡ true → (x : ℕ) × (o ≡ Some x)
is_there None e = cc
is_there (Some x) e = (x, refl)

pub there_is : (o : Option ℕ) (x : ℕ) → o ≡ Some x → is_some o ≡ true
there_is None x e = cc
there_is (Some y) x e = refl

-- ---- one place

untold_is : (place : ℕ) (told : List (Option ℕ)) → is_untold place told ≡ true → (place < length told) × (told_at told place ≡ None)
untold_is place [] e = cc
untold_is zero (None ∷ told) e = (omega arith, refl)
untold_is zero (Some x ∷ told) e = cc
untold_is (suc place) (m ∷ told) e = let h = untold_is place told e in (omega (arith, h.0), h.1)

told_is : (place : ℕ) (told : List (Option ℕ)) → is_untold place told ≡ false → place < length told → is_some (told_at told place) ≡ true
told_is place [] e h = absurd (omega arith)
told_is zero (None ∷ told) e h = cc
told_is zero (Some x ∷ told) e h = refl
told_is (suc place) (m ∷ told) e h = told_is place told e (omega arith)

set_length : (xs : List (Option ℕ)) (p : ℕ) (y : Option ℕ) → length (set xs p y) ≡ length xs
set_length [] p y = refl
set_length (z ∷ xs) zero y = refl
set_length (z ∷ xs) (suc p) y = ap suc (set_length xs p y)

set_keeps : (xs : List (Option ℕ)) (p : ℕ) (y : Option ℕ) (q x : ℕ) → told_at xs p ≡ None → told_at xs q ≡ Some x → told_at (set xs p y) q ≡ Some x
set_keeps [] p y q x n h = h
set_keeps (z ∷ xs) zero y zero x n h = cc
set_keeps (z ∷ xs) zero y (suc q) x n h = h
set_keeps (z ∷ xs) (suc p) y zero x n h = h
set_keeps (z ∷ xs) (suc p) y (suc q) x n h = set_keeps xs p y q x n h

set_cases : (xs : List (Option ℕ)) (p m q x : ℕ) → told_at (set xs p (Some m)) q ≡ Some x → (told_at xs q ≡ Some x) ⊎ ((p ≡ q) × (x ≡ m))
set_cases [] p m q x h = inl h
set_cases (z ∷ xs) zero m zero x h = let same : x ≡ m = cc in inr (refl, same)
set_cases (z ∷ xs) zero m (suc q) x h = inl h
set_cases (z ∷ xs) (suc p) m zero x h = inl h
set_cases (z ∷ xs) (suc p) m (suc q) x h =
    elim (set_cases xs p m q x h) [ inl there ↦ inl there | inr e ↦ inr (ap suc e.0, e.1) ]

set_has : (xs : List (Option ℕ)) (p m : ℕ) → p < length xs → is_some (told_at (set xs p (Some m)) p) ≡ true
set_has [] p m h = absurd (omega arith)
set_has (z ∷ xs) zero m h = refl
set_has (z ∷ xs) (suc p) m h = set_has xs p m (omega arith)

-- ---- what grows

-- what is told stays, and each place of which something is told newly stands behind the others
pub record Grows (a b : ToldValue) : Type 0 where
  pub count : length b.0 ≡ length a.0
  pub keeps : (q x : ℕ) → told_at a.0 q ≡ Some x → told_at b.0 q ≡ Some x
  pub more : List ℕ
  pub queue : b.1 ≡ a.1 ++ more
  pub fresh : (q x : ℕ) → told_at b.0 q ≡ Some x → (told_at a.0 q ≡ Some x) ⊎ Contains more q

append_nothing : (xs : List ℕ) → xs ≡ xs ++ []
append_nothing [] = refl
append_nothing (x ∷ xs) = ap (λ ys. x ∷ ys) (append_nothing xs)

grows_same : (t : ToldValue) → Grows t t
grows_same t = record { count = refl; keeps = λ q x h. h; more = []; queue = append_nothing t.1; fresh = λ q x h. inl h }

grows_more : (a b c : ToldValue) → Grows a b → Grows b c → Grows a c
grows_more a b c g h = record {
  count = h.count ∙ g.count;
  keeps = λ q x e. h.keeps q x (g.keeps q x e);
  more = g.more ++ h.more;
  queue = h.queue ∙ ap (λ xs. xs ++ h.more) g.queue ∙ append_assoc a.1 g.more h.more;
  fresh = λ q x e. elim (h.fresh q x e) [
    | inl mid ↦ elim (g.fresh q x mid) [ inl old ↦ inl old | inr new ↦ inr (Contains-append_left g.more h.more q new) ]
    | inr new ↦ inr (Contains-append_right g.more h.more q new)
  ];
}

told_by : Bool → ℕ → ℕ → ToldValue → ToldValue
told_by b place marked t = if b then (set t.0 place (Some marked), t.1 ++ place ∷ []) else t

grows_by : (b : Bool) (place marked : ℕ) (t : ToldValue) → is_untold place t.0 ≡ b → Grows t (told_by b place marked t)
unfolding told_by
grows_by false place marked t e = grows_same t
grows_by true place marked t e =
    let u = untold_is place t.0 e in
    record {
      count = set_length t.0 place (Some marked);
      keeps = λ q x h. set_keeps t.0 place (Some marked) q x u.1 h;
      more = place ∷ [];
      queue = refl;
      fresh = λ q x h. elim (set_cases t.0 place marked q x h) [
        | inl old ↦ inl old
        | inr e ↦ inr (subst (Contains (place ∷ [])) e.0 (Contains-push [] place))
      ];
    }

tell_grows : (place marked : ℕ) (t : ToldValue) → Grows t (tell place marked t)
unfolding told_by
tell_grows place marked t = grows_by (is_untold place t.0) place marked t refl

cases_by : (b : Bool) (place marked : ℕ) (t : ToldValue) (q x : ℕ) → told_at (told_by b place marked t).0 q ≡ Some x
    → (told_at t.0 q ≡ Some x) ⊎ ((place ≡ q) × (x ≡ marked))
unfolding told_by
cases_by false place marked t q x h = inl h
cases_by true place marked t q x h = set_cases t.0 place marked q x h

tell_cases : (place marked : ℕ) (t : ToldValue) (q x : ℕ) → told_at (tell place marked t).0 q ≡ Some x
    → (told_at t.0 q ≡ Some x) ⊎ ((place ≡ q) × (x ≡ marked))
unfolding told_by
tell_cases place marked t q x h = cases_by (is_untold place t.0) place marked t q x h

has_by : (b : Bool) (place marked : ℕ) (t : ToldValue) → is_untold place t.0 ≡ b → place < length t.0
    → is_some (told_at (told_by b place marked t).0 place) ≡ true
unfolding told_by
has_by false place marked t e h = told_is place t.0 e h
has_by true place marked t e h = set_has t.0 place marked h

tell_has : (place marked : ℕ) (t : ToldValue) → place < length t.0 → is_some (told_at (tell place marked t).0 place) ≡ true
unfolding told_by
tell_has place marked t h = has_by (is_untold place t.0) place marked t refl h

-- what is told of a place is so behind what grows
pub grown_has : (a b : ToldValue) (q : ℕ) → Grows a b → is_some (told_at a.0 q) ≡ true → is_some (told_at b.0 q) ≡ true
grown_has a b q g h =
    let it = is_there (told_at a.0 q) h in
    there_is (told_at b.0 q) it.0 (g.keeps q it.0 it.1)

-- ---- some places

pub tell_all_grows : (places : List ℕ) (marked : ℕ) (t : ToldValue) → Grows t (tell_all places marked t)
tell_all_grows [] marked t = grows_same t
tell_all_grows (place ∷ places) marked t =
    grows_more t (tell place marked t) (tell_all places marked (tell place marked t)) (tell_grows place marked t)
    (tell_all_grows places marked (tell place marked t))

pub tell_all_cases : (places : List ℕ) (marked : ℕ) (t : ToldValue) (q x : ℕ) → told_at (tell_all places marked t).0 q ≡ Some x
    → (told_at t.0 q ≡ Some x) ⊎ (Contains places q × (x ≡ marked))
tell_all_cases [] marked t q x h = inl h
tell_all_cases (place ∷ places) marked t q x h =
    elim (tell_all_cases places marked (tell place marked t) q x h) [
      | inl mid ↦ elim (tell_cases place marked t q x mid) [
        | inl old ↦ inl old
        | inr e ↦ inr (subst (Contains (place ∷ places)) e.0 (Contains-append_left (place ∷ []) places place (Contains-push [] place)), e.1)
      ]
      | inr e ↦ inr (Contains-append_right (place ∷ []) places q e.0, e.1)
    ]

pub tell_all_has : (places : List ℕ) (marked : ℕ) (t : ToldValue) (q : ℕ) → Contains places q → q < length t.0
    → is_some (told_at (tell_all places marked t).0 q) ≡ true
tell_all_has [] marked t q there h = absurd (nothing_in q there)
tell_all_has (place ∷ places) marked t q there h =
    elim (Contains-append_cases (place ∷ []) places q there) [
      | inl first ↦ elim (Contains-push_cases [] place q first) [
        | inl nowhere ↦ absurd (nothing_in q nowhere)
        | inr e ↦
            let now : is_some (told_at (tell place marked t).0 q) ≡ true =
            subst (λ k. is_some (told_at (tell place marked t).0 k) ≡ true) e (tell_has place marked t (subst (λ k. k < length t.0) (sym e) h)) in
            grown_has (tell place marked t) (tell_all places marked (tell place marked t)) q (tell_all_grows places marked (tell place marked t)) now
      ]
      | inr behind ↦
          tell_all_has places marked (tell place marked t) q behind (subst (λ n. q < n) (sym (tell_grows place marked t).count) h)
    ]

-- ---- the marked places

-- a place is marked whose number among those from here on is j
MarkedFrom : ℕ → List Bool → ℕ → Type 0
MarkedFrom i marks q = (j : ℕ) × (q ≡ i + j) × (is_marked marks j ≡ true)

if_grows : (b : Bool) (place : ℕ) (t : ToldValue) → Grows t (tell_if b place t)
if_grows true place t = tell_grows place place t
if_grows false place t = grows_same t

if_cases : (b : Bool) (place : ℕ) (t : ToldValue) (q x : ℕ) → told_at (tell_if b place t).0 q ≡ Some x
    → (told_at t.0 q ≡ Some x) ⊎ ((place ≡ q) × (x ≡ place) × (b ≡ true))
if_cases true place t q x h = elim (tell_cases place place t q x h) [ inl old ↦ inl old | inr e ↦ inr (e.0, e.1, refl) ]
if_cases false place t q x h = inl h

if_has : (b : Bool) (place : ℕ) (t : ToldValue) → b ≡ true → place < length t.0 → is_some (told_at (tell_if b place t).0 place) ≡ true
if_has true place t e h = tell_has place place t h
if_has false place t e h = cc

marked_grows : (i : ℕ) (marks : List Bool) (t : ToldValue) → Grows t (tell_marked i marks t)
marked_grows i [] t = grows_same t
marked_grows i (m ∷ marks) t =
    grows_more t (tell_if m i t) (tell_marked (suc i) marks (tell_if m i t)) (if_grows m i t) (marked_grows (suc i) marks (tell_if m i t))

marked_cases : (i : ℕ) (marks : List Bool) (t : ToldValue) (q x : ℕ) → told_at (tell_marked i marks t).0 q ≡ Some x
    → (told_at t.0 q ≡ Some x) ⊎ ((x ≡ q) × MarkedFrom i marks q)
unfolding MarkedFrom
marked_cases i [] t q x h = inl h
marked_cases i (m ∷ marks) t q x h =
    elim (marked_cases (suc i) marks (tell_if m i t) q x h) [
      | inl mid ↦ elim (if_cases m i t q x mid) [
        | inl old ↦ inl old
        | inr e ↦
            let same : x ≡ q = e.1 ∙ e.0 in
            let here : q ≡ i + 0 = omega (arith, e.0) in
            inr (same, (0, here, e.2))
      ]
      | inr later ↦
          let there : q ≡ i + suc later.1.0 = omega (arith, later.1.1) in
          inr (later.0, (suc later.1.0, there, later.1.2))
    ]

marked_has : (i : ℕ) (marks : List Bool) (t : ToldValue) (j : ℕ) → is_marked marks j ≡ true → i + j < length t.0
    → is_some (told_at (tell_marked i marks t).0 (i + j)) ≡ true
marked_has i [] t j e h = cc
marked_has i (m ∷ marks) t zero e h =
    let here : i ≡ i + 0 = omega arith in
    let within : i < length t.0 = omega arith in
    grown_has (tell_if m i t) (tell_marked (suc i) marks (tell_if m i t)) (i + 0) (marked_grows (suc i) marks (tell_if m i t))
    (subst (λ k. is_some (told_at (tell_if m i t).0 k) ≡ true) here (if_has m i t e within))
marked_has i (m ∷ marks) t (suc j) e h =
    let next : suc i + j ≡ i + suc j = omega arith in
    let within : suc i + j < length (tell_if m i t).0 = subst (λ n. suc i + j < n) (sym (if_grows m i t).count) (omega arith) in
    subst (λ k. is_some (told_at (tell_marked (suc i) marks (tell_if m i t)).0 k) ≡ true) next (marked_has (suc i) marks (tell_if m i t) j e within)

none_told : (n q x : ℕ) → told_at (replicate n None) q ≡ Some x → ⊥
none_told zero q x h = cc
none_told (suc n) zero x h = cc
none_told (suc n) (suc q) x h = none_told n q x h

length_same : (n : ℕ) (x : Option ℕ) → length (replicate n x) ≡ n
length_same zero x = refl
length_same (suc n) x = ap suc (length_same n x)

nones : ℕ → List (Option ℕ)
nones n = replicate n None

pub first_count : (marks : List Bool) → length (first_told marks).0 ≡ length marks
first_count marks = (marked_grows 0 marks (replicate (length marks) None, [])).count ∙ length_same (length marks) None

pub first_found : (marks : List Bool) (q x : ℕ) → told_at (first_told marks).0 q ≡ Some x → (x ≡ q) × (is_marked marks x ≡ true)
unfolding MarkedFrom
first_found marks q x h =
    elim (marked_cases 0 marks (replicate (length marks) None, []) q x h) [
      | inl old ↦ absurd (none_told (length marks) q x old)
      | inr it ↦
          let same : it.1.0 ≡ x = omega (arith, it.0, it.1.1) in
          (it.0, subst (λ k. is_marked marks k ≡ true) same it.1.2)
    ]

within_marks : (marks : List Bool) (q : ℕ) → is_marked marks q ≡ true → q < length marks
within_marks [] q e = cc
within_marks (m ∷ marks) zero e = omega arith
within_marks (m ∷ marks) (suc q) e = let h = within_marks marks q e in omega (arith, h)

pub first_has : (marks : List Bool) (q : ℕ) → is_marked marks q ≡ true → is_some (told_at (first_told marks).0 q) ≡ true
unfolding nones
first_has marks q e =
    let same : 0 + q ≡ q = omega arith in
    let within : q < length marks = within_marks marks q e in
    let there : 0 + q < length (nones (length marks)) = subst (λ n. 0 + q < n) (sym (length_same (length marks) None)) (omega arith) in
    subst (λ k. is_some (told_at (first_told marks).0 k) ≡ true) same (marked_has 0 marks (replicate (length marks) None, []) q e there)

pub first_own : (marks : List Bool) (q : ℕ) → is_marked marks q ≡ true → told_at (first_told marks).0 q ≡ Some q
first_own marks q e =
    let it = is_there (told_at (first_told marks).0 q) (first_has marks q e) in
    let f = first_found marks q it.0 it.1 in
    it.1 ∙ ap Some f.0

pub first_waits : (marks : List Bool) (q x : ℕ) → told_at (first_told marks).0 q ≡ Some x → Contains (first_told marks).1 q
first_waits marks q x h =
    let g = marked_grows 0 marks (replicate (length marks) None, []) in
    elim (g.fresh q x h) [
      | inl old ↦ absurd (none_told (length marks) q x old)
      | inr new ↦ subst (λ xs. Contains xs q) (sym g.queue) new
    ]

-- ---- turns of loops

pub all_turn : (places : List ℕ) (i marked d : ℕ) (old new all : ToldValue) → i < length places → tell_all (drop i places) marked old ≡ all
    → new ≡ tell (get_or places i d) marked old → tell_all (drop (i + 1) places) marked new ≡ all
all_turn places i marked d old new all h was now =
    ap (tell_all (drop (i + 1) places) marked) now ∙ sym (ap (λ xs. tell_all xs marked old) (drop_more places i d h)) ∙ was

pub first_turn : (marks : List Bool) (i : ℕ) (d : Bool) (old new all : ToldValue) → i < length marks → tell_marked i (drop i marks) old ≡ all
    → new ≡ tell_if (get_or marks i d) i old → tell_marked (i + 1) (drop (i + 1) marks) new ≡ all
first_turn marks i d old new all h was now =
    let next : i + 1 ≡ suc i = add-one i in
    ap (λ k. tell_marked k (drop (i + 1) marks) new) next
    ∙ ap (tell_marked (suc i) (drop (i + 1) marks)) now
    ∙ sym (ap (λ xs. tell_marked i xs old) (drop_more marks i d h))
    ∙ was
