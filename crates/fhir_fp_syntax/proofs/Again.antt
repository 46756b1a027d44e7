-- What is in the grammar is read.
use Rattle.std.proofs.Common.{◌≡◌, ℕ, zero, suc, ◌<◌, ◌≤◌, false, eqb, ltb, List, [], ◌∷◌, ◌++◌, length, Option, Some, None, refl, sym, ap, subst, ◌∙◌, append_assoc, arith, inl, inr}
use Rattle.std.proofs.lemmas.Bool.{cases_Bool, eqb-true, eq-eqb, ne_eqb, ltb-false}
use Rattle.std.proofs.lemmas.List.{length-append, append-nil}
use borrow.Author.Tests.{ltb-true}
use Rattle.fhir_fp_syntax.specs.declared.expr.TypeTest.TheVariants as tests
use Rattle.fhir_fp_syntax.specs.declared.token.Mark.TheVariants as marks
use Rattle.fhir_fp_syntax.specs.declared.token.Given.{Given}
use Rattle.fhir_fp_syntax.specs.declared.token.Given.TheVariants as givens
use Rattle.fhir_fp_syntax.specs.declared.token.Next.{Next}
use Rattle.fhir_fp_syntax.specs.Expression.{Expression, this, call, typed}
use Rattle.fhir_fp_syntax.specs.Words.{Word, marked, next_of, looseness, name_of, term_of, is_open, is_close, is_dot, function_of, given_of, with_argument}
use Rattle.fhir_fp_syntax.specs.Grammar.{opening, closing, IsType, simple, qualified, Is, term, inside, begun, grown, IsTail, operated, tested, member, called, indexed, IsCall, plain, given, of_type}
use Rattle.fhir_fp_syntax.specs.Answers.{◌>>=◌}
use Rattle.fhir_fp_syntax.specs.Parsing.{Parse, Calls, behind, before, type_argument_at, type_at, argument_at, call_at, calls_at, is_deep, named_at, primary_at, child_of, member_at, tail_at, more_at, level_at, inner_at, at_level}
use Rattle.fhir_fp_syntax.proofs.Options.{some_is}
use Rattle.fhir_fp_syntax.proofs.Stands.{tail_stands_at}

-- how loosely what follows binds
abbrev pub loose_of : List Word → ℕ
loose_of [] = 10
loose_of (t ∷ ts) = looseness (next_of t)

abbrev pub calls_within : ℕ → Calls
calls_within d = calls_at (is_deep d) (inner_at d)

abbrev pub tail_within : ℕ → ℕ → Expression → Next → Parse
tail_within d m = tail_at (inner_at d) (calls_within d) (at_level d m)

-- going on from e
abbrev pub more : ℕ → ℕ → Expression → Parse
more d zero e rest = Some (e, rest)
more d (suc m) e rest = more_at (suc m) (tail_within d m) (length rest) e rest

more_none : (d n : ℕ) (e : Expression) (rest : List Word) → n < loose_of rest → more d n e rest ≡ Some (e, rest)
unfolding more_at
more_none d zero e rest h = refl
more_none d (suc m) e [] h = refl
more_none d (suc m) e (t ∷ rest) h = rw (ne_eqb (looseness (next_of t)) (suc m) (λ is. omega arith)) refl

step : (d n : ℕ) (e : Expression) (ts rest : List Word) → at_level d n ts ≡ Some (e, rest) → at_level d (suc n) ts ≡ more d (suc n) e rest
unfolding level_at
step d n e ts rest h = ap (λ (o : Option (Expression × List Word)). o >>= (λ x. more_at (suc n) (tail_within d n) (length x.1) x.0 x.1)) h

climb : (d k n : ℕ) (e : Expression) (ts rest : List Word) → k ≤ n → n ≤ loose_of rest → at_level d k ts ≡ more d k e rest → at_level d n ts ≡ more d n e rest
climb d k zero e ts rest h stop is = let same : k ≡ zero = omega arith in subst (λ (j : ℕ). at_level d j ts ≡ more d j e rest) same is
climb d k (suc n) e ts rest h stop is =
    elim (cases_Bool (ltb k (suc n))) [
      | inl less ↦
          let below : k < suc n = ltb-true k (suc n) less in
          step d n e ts rest (climb d k n e ts rest (omega arith) (omega arith) is ∙ more_none d n e rest (omega arith))
      | inr same ↦
          let above = ltb-false k (suc n) same in
          let equal : k ≡ suc n = omega arith in subst (λ (j : ℕ). at_level d j ts ≡ more d j e rest) equal is
    ]

-- ---- enough turns are enough

bind_same : {A B : Type 0} (o : Option A) (f g : A → Option B) → ((x : A) → o ≡ Some x → f x ≡ g x) → (o >>= f) ≡ (o >>= g)
bind_same (Some x) f g h = h x refl
bind_same None f g h = refl

tail_some : {d m : ℕ} {a e : Expression} {ts : List Word} → IsTail d m a e ts → 0 < length ts
tail_some (operated a b c s e) = omega (arith, ap length s)
tail_some (tested a b c s e) = omega (arith, ap length s)
tail_some (member a b s e) = omega (arith, ap length s)
tail_some (called a b s) = omega (arith, ap length s)
tail_some (indexed a b c s e) = omega (arith, ap length s)

tail_shortens : (d m : ℕ) (a : Expression) (t : Word) (ts : List Word) (x : Expression × List Word) → looseness (next_of t) ≡ suc m → tail_within d m a (next_of t) ts ≡ Some x → length x.1 ≤ length ts
tail_shortens d m a t ts x loose h =
    let s = tail_stands_at d m a t ts x loose h in
    let long = tail_some s.2 in
    omega (arith, ap length s.1, length-append s.0 x.1)

more_fuel : (d m f g : ℕ) (a : Expression) (ts : List Word) → length ts ≤ f → length ts ≤ g → more_at (suc m) (tail_within d m) f a ts ≡ more_at (suc m) (tail_within d m) g a ts
unfolding more_at
more_fuel d m zero zero a ts h k = refl
more_fuel d m zero (suc g) a [] h k = refl
more_fuel d m zero (suc g) a (t ∷ ts) h k = absurd (omega arith)
more_fuel d m (suc f) zero a [] h k = refl
more_fuel d m (suc f) zero a (t ∷ ts) h k = absurd (omega arith)
more_fuel d m (suc f) (suc g) a [] h k = refl
more_fuel d m (suc f) (suc g) a (t ∷ ts) h k =
    elim (cases_Bool (eqb (looseness (next_of t)) (suc m))) [
      | inl is ↦
          let loose = eqb-true (looseness (next_of t)) (suc m) is in
          rw is (bind_same (tail_within d m a (next_of t) ts) _ _ (λ x e. let less = tail_shortens d m a t ts x loose e in more_fuel d m f g x.0 x.1 (omega arith) (omega arith)))
      | inr isnt ↦ rw isnt refl
    ]

-- ---- words

not_open_next : (ts : List Word) → 0 < loose_of ts → behind is_open ts ≡ None
not_open_next [] h = refl
not_open_next (marked marks.Open ∷ ts) h = absurd (omega arith)
not_open_next (t ∷ ts) h = refl

term_not_open : (t : Word) (e : Expression) → term_of t ≡ Some e → is_open t ≡ false
term_not_open (marked marks.Open) e h = absurd cc
term_not_open t e h = refl

term_not_close : (t : Word) (e : Expression) → term_of t ≡ Some e → is_close t ≡ false
term_not_close (marked marks.Close) e h = absurd cc
term_not_close t e h = refl

name_not_open : (t : Word) (w : List ℕ) → name_of t ≡ Some w → is_open t ≡ false
name_not_open (marked marks.Open) w h = absurd cc
name_not_open t w h = refl

name_not_close : (t : Word) (w : List ℕ) → name_of t ≡ Some w → is_close t ≡ false
name_not_close (marked marks.Close) w h = absurd cc
name_not_close t w h = refl

-- ---- the first word of an expression closes nothing

abbrev pub Begins : List Word → Type 0
Begins ts = (t : Word) × (us : List Word) × (ts ≡ t ∷ us) × (is_close t ≡ false)

begins_call : {d : ℕ} {a e : Expression} {ts : List Word} → IsCall d a e ts → Begins ts
begins_call (plain within n f s e) = (_, _, s, name_not_close _ _ n)
begins_call (given within n g i w s) = (_, _, s, name_not_close _ _ n)
begins_call (of_type within n g v e s) = (_, _, s, name_not_close _ _ n)

begins : {d n : ℕ} {e : Expression} {ts : List Word} → Is d n e ts → Begins ts
begins (term h s) = (_, _, s, term_not_close _ _ h)
begins (inside within i s) = (_, _, s, refl)
begins (begun c) = begins_call c
begins (grown {ys = ys} lt i t s) = let b = begins i in (b.0, b.1 ++ ys, s ∙ ap (λ (w : List Word). w ++ ys) b.2, b.3)

-- ---- what is spelled is read

abbrev pub AgainAt : ℕ → ℕ → Expression → List Word → Type 0
AgainAt d n e ts = (rest : List Word) → 0 < loose_of rest → n ≤ loose_of rest → at_level d n (ts ++ rest) ≡ more d n e rest

abbrev pub AgainTail : ℕ → ℕ → Expression → Expression → List Word → Type 0
AgainTail d m a e ts = (t : Word) × (us : List Word) × (ts ≡ t ∷ us) × (looseness (next_of t) ≡ suc m)
    × ((rest : List Word) → 0 < loose_of rest → suc m ≤ loose_of rest → tail_within d m a (next_of t) (us ++ rest) ≡ Some (e, rest))

abbrev pub AgainCall : ℕ → Expression → Expression → List Word → Type 0
AgainCall d a e ts = (t : Word) × (w : List ℕ) × (us : List Word) × (ts ≡ t ∷ opening ∷ us) × (name_of t ≡ Some w)
    × ((rest : List Word) → calls_within d a w (us ++ rest) ≡ Some (e, rest))

-- what stands within brackets
inner_again : (d c : ℕ) (e : Expression) (us rest : List Word) → d ≡ suc c → AgainAt c 9 e us → loose_of rest ≡ 10 → inner_at d (us ++ rest) ≡ Some (e, rest)
unfolding inner_at
inner_again d c e us rest within again stop =
    subst (λ (k : ℕ). inner_at k (us ++ rest) ≡ Some (e, rest)) (sym within) (again rest (omega arith) (omega arith) ∙ more_none c 9 e rest (omega arith))

deep_calls : (d c : ℕ) (a : Expression) (w : List ℕ) (ts : List Word) → d ≡ suc c → calls_within d a w ts ≡ call_at (inner_at d) a w ts
unfolding calls_at
deep_calls d c a w ts within = subst (λ (k : ℕ). calls_within k a w ts ≡ call_at (inner_at k) a w ts) (sym within) refl

plain_again : (d c : ℕ) (a : Expression) (w : List ℕ) (f : _) (rest : List Word) → d ≡ suc c → function_of w ≡ Some f → calls_within d a w (closing ∷ rest) ≡ Some (call f a, rest)
unfolding call_at
plain_again d c a w f rest within is = deep_calls d c a w (closing ∷ rest) within ∙ rw is refl

other_again : (inner : Parse) (g : Given) (a b e : Expression) (us rest : List Word) → inner us ≡ Some (b, closing ∷ rest) → with_argument g a b ≡ Some e → (inner us >>= λ x. (with_argument g a x.0 >>= λ y. before is_close y x.1)) ≡ Some (e, rest)
other_again inner g a b e us rest read is = rw (read, is) refl

argument_again : (inner : Parse) (g : Given) (a b e : Expression) (us rest : List Word) → inner us ≡ Some (b, closing ∷ rest) → with_argument g a b ≡ Some e → argument_at inner g a us ≡ Some (e, rest)
argument_again inner givens.OfType a b e us rest read is = absurd cc
argument_again inner g a b e us rest read is = other_again inner g a b e us rest read is

given_again : (d c : ℕ) (a b e : Expression) (w : List ℕ) (g : Given) (us rest : List Word) → d ≡ suc c → given_of w ≡ Some g → with_argument g a b ≡ Some e → Begins us → AgainAt c 9 b us → calls_within d a w ((us ++ closing ∷ []) ++ rest) ≡ Some (e, rest)
unfolding call_at
given_again d c a b e w g us rest within is_given is_e begin again =
    let text : (us ++ closing ∷ []) ++ rest ≡ begin.0 ∷ (begin.1 ++ closing ∷ rest) = append_assoc us (closing ∷ []) rest ∙ ap (λ (v : List Word). v ++ closing ∷ rest) begin.2 in
    let read : inner_at d (begin.0 ∷ (begin.1 ++ closing ∷ rest)) ≡ Some (b, closing ∷ rest) =
    ap (λ (v : List Word). inner_at d (v ++ closing ∷ rest)) (sym begin.2) ∙ inner_again d c b us (closing ∷ rest) within again refl in
    deep_calls d c a w _ within ∙ ap (call_at (inner_at d) a w) text ∙ rw (begin.3, is_given) (argument_again (inner_at d) g a b e _ rest read is_e)

-- a type, before what is no dot
type_again : {w : List ℕ} {us : List Word} → IsType w us → (rest : List Word) → behind is_dot rest ≡ None → type_at (us ++ rest) ≡ Some (w, rest)
unfolding type_at
type_again (simple n other s) rest stop = ap (λ (v : List Word). type_at (v ++ rest)) s ∙ rw (n, stop, other) refl
type_again (qualified n m s) rest stop = ap (λ (v : List Word). type_at (v ++ rest)) s ∙ rw (n, m) refl

type_begins : {w : List ℕ} {us : List Word} → IsType w us → Begins us
type_begins (simple n other s) = (_, _, s, name_not_close _ _ n)
type_begins (qualified n m s) = (_, _, s, name_not_close _ _ n)

-- what binds looser than a dot is none
no_dot : (rest : List Word) → 1 < loose_of rest → behind is_dot rest ≡ None
no_dot [] h = refl
no_dot (marked marks.Dot ∷ rest) h = absurd (omega arith)
no_dot (t ∷ rest) h = refl

type_argument_again : (a : Expression) (v : List ℕ) (us rest : List Word) → IsType v us → type_argument_at a (us ++ closing ∷ rest) ≡ Some (typed tests.OfType a v, rest)
type_argument_again a v us rest is = rw (type_again is (closing ∷ rest) refl) refl

of_type_again : (d c : ℕ) (a : Expression) (w v : List ℕ) (us rest : List Word) → d ≡ suc c → given_of w ≡ Some givens.OfType → IsType v us
    → calls_within d a w ((us ++ closing ∷ []) ++ rest) ≡ Some (typed tests.OfType a v, rest)
unfolding call_at
of_type_again d c a w v us rest within is_given is =
    let begin = type_begins is in
    let text : (us ++ closing ∷ []) ++ rest ≡ begin.0 ∷ (begin.1 ++ closing ∷ rest) = append_assoc us (closing ∷ []) rest ∙ ap (λ (v : List Word). v ++ closing ∷ rest) begin.2 in
    let read : type_argument_at a (begin.0 ∷ (begin.1 ++ closing ∷ rest)) ≡ Some (typed tests.OfType a v, rest) =
    ap (λ (v : List Word). type_argument_at a (v ++ closing ∷ rest)) (sym begin.2) ∙ type_argument_again a v us rest is in
    deep_calls d c a w _ within ∙ ap (call_at (inner_at d) a w) text ∙ rw (begin.3, is_given) read

primary_is : (d : ℕ) (ts : List Word) → at_level d 0 ts ≡ primary_at (inner_at d) (calls_within d) ts
unfolding level_at
primary_is d ts = refl

-- a call where a name may stand
named_again : (d : ℕ) (a e : Expression) (o : Option Expression) (t : Word) (w : List ℕ) (us rest : List Word) → name_of t ≡ Some w → calls_within d a w (us ++ rest) ≡ Some (e, rest) → named_at (calls_within d) a o t (opening ∷ (us ++ rest)) ≡ Some (e, rest)
named_again d a e o t w us rest is read = rw is read

-- one more turn
turned : (d m : ℕ) (a e : Expression) (t : Word) (us rest : List Word) → looseness (next_of t) ≡ suc m → tail_within d m a (next_of t) us ≡ Some (e, rest) → more d (suc m) a (t ∷ us) ≡ more d (suc m) e rest
unfolding more_at
turned d m a e t us rest loose h =
    let short = tail_shortens d m a t us (e, rest) loose h in
    rw (eq-eqb (looseness (next_of t)) (suc m) loose, h) (more_fuel d m (length us) (length rest) e rest short (omega arith))

mutual
  unfolding primary_at tail_at

  again : {d n : ℕ} {e : Expression} {ts : List Word} → Is d n e ts → AgainAt d n e ts
  again {d} {n} {e} (term {t = t} h s) rest some stop =
      climb d 0 n e _ rest (omega arith) stop
      (ap (λ (v : List Word). at_level d 0 (v ++ rest)) s ∙ primary_is d (t ∷ rest) ∙ rw (term_not_open t e h, not_open_next rest some, h) refl)
  again {d} {n} {e} (inside {c = c} {us = us} within i s) rest some stop =
      let read = inner_again d c e us (closing ∷ rest) within (again i) refl in
      climb d 0 n e _ rest (omega arith) stop
      (ap (λ (v : List Word). at_level d 0 (v ++ rest)) s ∙ primary_is d (opening ∷ ((us ++ closing ∷ []) ++ rest)) ∙ rw (append_assoc us (closing ∷ []) rest, read) refl)
  again {d} {n} {e} (begun k) rest some stop =
      let c = again_call k in
      climb d 0 n e _ rest (omega arith) stop
      (ap (λ (v : List Word). at_level d 0 (v ++ rest)) c.3 ∙ primary_is d (c.0 ∷ opening ∷ (c.2 ++ rest)) ∙ rw (name_not_open c.0 c.1 c.4) (named_again d this e (term_of c.0) c.0 c.1 c.2 rest c.4 (c.5 rest)))
  again {d} {n} {e} (grown {m = m} {a = a} {xs = xs} {ys = ys} lt i k s) rest some stop =
      let t = again_tail k in
      let after : ys ++ rest ≡ t.0 ∷ (t.1 ++ rest) = ap (λ (v : List Word). v ++ rest) t.2 in
      let left = again i (t.0 ∷ (t.1 ++ rest)) (omega (arith, t.3)) (omega (arith, t.3)) in
      let tail = t.4 rest some (omega arith) in
      climb d (suc m) n e _ rest (omega arith) stop
      (ap (at_level d (suc m)) (ap (λ (v : List Word). v ++ rest) s ∙ append_assoc xs ys rest ∙ ap (λ (v : List Word). xs ++ v) after) ∙ left ∙ turned d m a e t.0 (t.1 ++ rest) rest t.3 tail)

  again_tail : {d m : ℕ} {a e : Expression} {ts : List Word} → IsTail d m a e ts → AgainTail d m a e ts
  again_tail {d} {m} {a} {e} (operated {b = b} {op = op} {t = t} {ys = ys} is loose i s made) =
      (t, ys, s, loose, λ rest some stop. rw (is, again i rest some (omega arith) ∙ more_none d m b rest (omega arith), made) refl)
  again_tail {d} {m} {a} {e} (tested {f = f} {t = t} {us = us} is first n s made) =
      (t, us, s, rw (is, first) refl, λ rest some stop. rw (is, type_again n rest (no_dot rest (omega arith)), made) refl)
  again_tail {d} {m} {a} {e} (member {t = t} first n s made) =
      (marked marks.Dot, t ∷ [], s, rw first refl, λ rest some stop. rw (not_open_next rest some, n, made) refl)
  again_tail {d} {m} {a} {e} (called first k s) =
      let c = again_call k in
      (marked marks.Dot, _, s, rw first refl, λ rest some stop. ap (λ (v : List Word). member_at (calls_within d) a (v ++ rest)) c.3 ∙ named_again d a e (child_of a c.0) c.0 c.1 c.2 rest c.4 (c.5 rest))
  again_tail {d} {m} {a} {e} (indexed {c = c} {i = i} {us = us} first within h s made) = (
    marked marks.OpenBracket,
    us ++ marked marks.CloseBracket ∷ [],
    s,
    rw first refl,
    λ rest some stop.
        let read = inner_again d c i us (marked marks.CloseBracket ∷ rest) within (again h) refl in
        rw (append_assoc us (marked marks.CloseBracket ∷ []) rest, read, made) refl,
  )

  again_call : {d : ℕ} {a e : Expression} {ts : List Word} → IsCall d a e ts → AgainCall d a e ts
  again_call {d} {a} {e} (plain {c = c} {f = f} {t = t} {w = w} within n is s made) =
      (t, w, closing ∷ [], s, n, λ rest. rw made (plain_again d c a w f rest within is))
  again_call {d} {a} {e} (given {c = c} {b = b} {g = g} {t = t} {w = w} {us = us} within n is i made s) =
      (t, w, us ++ closing ∷ [], s, n, λ rest. given_again d c a b e w g us rest within is made (begins i) (again i))
  again_call {d} {a} {e} (of_type {c = c} {t = t} {w = w} {v = v} {us = us} within n is m made s) =
      (t, w, us ++ closing ∷ [], s, n, λ rest. rw made (of_type_again d c a w v us rest within is m))

pub read_again : (d : ℕ) (e : Expression) (ts : List Word) → Is d 9 e ts → at_level d 9 ts ≡ Some (e, [])
read_again d e ts h = ap (at_level d 9) (sym (append-nil ts)) ∙ again h [] (omega arith) (omega arith) ∙ more_none d 9 e [] (omega arith)

whole : Expression → Option (Expression × List Word)
whole x = Some (x, [])

whole_is : (e f : Expression) → whole e ≡ whole f → e ≡ f
unfolding whole
whole_is e f q = ap (λ (x : Expression × List Word). x.0) (some_is (e, []) (f, []) q)

pub one : (d : ℕ) (e f : Expression) (ts : List Word) → Is d 9 e ts → Is d 9 f ts → e ≡ f
unfolding whole
one d e f ts h k = whole_is e f (sym (read_again d e ts h) ∙ read_again d f ts k)
