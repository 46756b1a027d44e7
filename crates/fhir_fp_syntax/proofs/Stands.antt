-- What is read is in the grammar.
use Rattle.std.proofs.Common.{◌≡◌, ℕ, zero, suc, ◌≤◌, Bool, true, eqb, List, [], ◌∷◌, ◌++◌, length, Option, Some, None, refl, sym, ap, ap₂, subst, ◌∙◌, append_assoc, arith, inl, inr}
use Rattle.std.proofs.lemmas.Bool.{eqb-true}
use Rattle.std.proofs.lemmas.List.{append-nil}
use Rattle.fhir_fp_syntax.specs.declared.token.Mark.TheVariants as marks
use Rattle.fhir_fp_syntax.specs.declared.token.Given.{Given}
use Rattle.fhir_fp_syntax.specs.declared.token.Given.TheVariants as givens
use Rattle.fhir_fp_syntax.specs.declared.token.Next.{Next}
use Rattle.fhir_fp_syntax.specs.declared.token.Next.TheVariants as nexts
use Rattle.fhir_fp_syntax.specs.Expression.{Expression, this, child, call, typed, binary}
use Rattle.fhir_fp_syntax.specs.Words.{Word, marked, next_of, looseness, name_of, term_of, is_open, is_close, is_close_bracket, is_dot, is_system_type, function_of, given_of, with_argument}
use Rattle.fhir_fp_syntax.specs.Grammar.{opening, closing, IsType, simple, qualified, Is, term, inside, begun, grown, IsTail, operated, tested, member, called, indexed, IsCall, plain, given, of_type}
use Rattle.fhir_fp_syntax.specs.Answers.{◌>>=◌}
use Rattle.fhir_fp_syntax.proofs.Options.{bind_some, chosen, guard_some, some_is, no_some, bytes_same}
use Rattle.std.specs.Prelude.{bytes_eq, codes}
use Rattle.fhir_fp_syntax.specs.Parsing.{Parse, Calls, behind, before, type_argument_at, qualified_at, type_named, type_at, argument_at, call_at, calls_at, is_deep, call_or, primary_at, child_of, tail_at, more_at, level_at, inner_at, at_level}

-- ---- tools

pub is_open_is : (t : Word) → is_open t ≡ true → t ≡ opening
is_open_is (marked marks.Open) h = refl
is_open_is t h = absurd cc

pub is_close_is : (t : Word) → is_close t ≡ true → t ≡ closing
is_close_is (marked marks.Close) h = refl
is_close_is t h = absurd cc

pub is_close_bracket_is : (t : Word) → is_close_bracket t ≡ true → t ≡ marked marks.CloseBracket
is_close_bracket_is (marked marks.CloseBracket) h = refl
is_close_bracket_is t h = absurd cc

pub dot_is : (t : Word) → next_of t ≡ nexts.Dot → t ≡ marked marks.Dot
dot_is (marked marks.Dot) h = refl
dot_is t h = absurd cc

pub bracket_is : (t : Word) → next_of t ≡ nexts.Bracket → t ≡ marked marks.OpenBracket
bracket_is (marked marks.OpenBracket) h = refl
bracket_is t h = absurd cc

behind_is : (is : Word → Bool) (ts us : List Word) → behind is ts ≡ Some us → (t : Word) × (ts ≡ t ∷ us) × (is t ≡ true)
behind_is is [] us e = absurd cc
behind_is is (t ∷ ts) us e = let g = guard_some (is t) ts us e in (t, ap (λ (w : List Word). t ∷ w) g.1, g.0)

abbrev pub Stands : (Expression → List Word → Type 0) → List Word → Expression × List Word → Type 0
Stands P ts x = (front : List Word) × (ts ≡ front ++ x.1) × P x.0 front

-- what stands before a closing word
closed_is : (is : Word → Bool) (c : Word) → ((t : Word) → is t ≡ true → t ≡ c) → (e : Expression) (ts : List Word) (x : Expression × List Word) → before is e ts ≡ Some x → (ts ≡ c ∷ x.1) × (e ≡ x.0)
closed_is is c only e ts x h =
    let s = bind_some (behind is ts) _ x h in
    let b = behind_is is ts s.0 s.1 in
    let p = some_is (e, s.0) x s.2 in
    (b.1 ∙ ap₂ (λ (t : Word) (w : List Word). t ∷ w) (only b.0 b.2) (ap (λ (q : Expression × List Word). q.1) p), ap (λ (q : Expression × List Word). q.0) p)

pub looser : {d n k : ℕ} {e : Expression} {ts : List Word} → n ≤ k → Is d n e ts → Is d k e ts
looser h (term e s) = term e s
looser h (inside s i u) = inside s i u
looser h (begun c) = begun c
looser h (grown l a t s) = grown (omega arith) a t s

-- ---- types

pub is_dot_is : (t : Word) → is_dot t ≡ true → t ≡ marked marks.Dot
is_dot_is (marked marks.Dot) h = refl
is_dot_is t h = absurd cc

abbrev pub TypeStands : List Word → List ℕ × List Word → Type 0
TypeStands ts x = (front : List Word) × (ts ≡ front ++ x.1) × IsType x.0 front

qualified_stands : (t : Word) → name_of t ≡ Some (codes "FHIR") → (us : List Word) (x : List ℕ × List Word) → qualified_at us ≡ Some x → TypeStands (t ∷ marked marks.Dot ∷ us) x
qualified_stands t is [] x h = absurd cc
qualified_stands t is (u ∷ us) x h =
    let s = bind_some (name_of u) _ x h in
    subst (λ (q : List ℕ × List Word). TypeStands (t ∷ marked marks.Dot ∷ u ∷ us) q) (some_is (s.0, us) x s.2) (t ∷ marked marks.Dot ∷ u ∷ [], refl, qualified is s.1 refl)

named_type_stands : (t : Word) (w : List ℕ) → name_of t ≡ Some w → (ts : List Word) (x : List ℕ × List Word) (o : Option (List Word)) → behind is_dot ts ≡ o
    → type_named w ts o ≡ Some x → TypeStands (t ∷ ts) x
named_type_stands t w is ts x (Some us) next h =
    let b = behind_is is_dot ts us next in
    elim (chosen (bytes_eq w (codes "FHIR")) _ _ _ h) [
      | inl fhir ↦
          let name : name_of t ≡ Some (codes "FHIR") = is ∙ ap (λ (v : List ℕ). Some v) (bytes_same w (codes "FHIR") fhir.0) in
          subst (λ (v : List Word). TypeStands (t ∷ v) x) (sym (b.1 ∙ ap (λ (u : Word). u ∷ us) (is_dot_is b.0 b.2))) (qualified_stands t name us x fhir.1)
      | inr other ↦ absurd (no_some x other.1)
    ]
named_type_stands t w is ts x None next h =
    elim (chosen (is_system_type w) _ _ _ h) [
      | inl system ↦ absurd (no_some x system.1)
      | inr other ↦ subst (λ (q : List ℕ × List Word). TypeStands (t ∷ ts) q) (some_is (w, ts) x other.1) (t ∷ [], refl, simple is other.0 refl)
    ]

type_stands_at : (ts : List Word) (x : List ℕ × List Word) → type_at ts ≡ Some x → TypeStands ts x
unfolding type_at
type_stands_at [] x h = absurd cc
type_stands_at (t ∷ ts) x h =
    let s = bind_some (name_of t) _ x h in
    named_type_stands t s.0 s.1 ts x (behind is_dot ts) refl s.2

-- ---- within d brackets

module _ (d : ℕ) (inner : Parse)
    (deep : (ts : List Word) (x : Expression × List Word) → inner ts ≡ Some x → (c : ℕ) × (d ≡ suc c) × Stands (Is c 9) ts x) where
  argument_stands : (c : ℕ) → d ≡ suc c → (g : Given) (a : Expression) (t : Word) (w : List ℕ) → name_of t ≡ Some w → given_of w ≡ Some g → (us : List Word) (x : Expression × List Word) → (inner us >>= λ b. (with_argument g a b.0 >>= λ e. before is_close e b.1)) ≡ Some x → Stands (IsCall d a) (t ∷ opening ∷ us) x
  argument_stands c within g a t w is_name is_given us x h =
      let s = bind_some (inner us) _ x h in
      let k = bind_some (with_argument g a s.0.0) _ x s.2 in
      let b = closed_is is_close closing is_close_is k.0 s.0.1 x k.2 in
      let i = deep us s.0 s.1 in (
        t ∷ opening ∷ (i.2.0 ++ closing ∷ []),
        ap (λ (v : List Word). t ∷ opening ∷ v) (i.2.1 ∙ ap (λ (v : List Word). i.2.0 ++ v) b.0 ∙ sym (append_assoc i.2.0 (closing ∷ []) x.1)),
        given i.1 is_name is_given i.2.2 (subst (λ (e : Expression). with_argument g a s.0.0 ≡ Some e) b.1 k.1) refl,
      )

  type_stands : (c : ℕ) → d ≡ suc c → (a : Expression) (t : Word) (w : List ℕ) → name_of t ≡ Some w → given_of w ≡ Some givens.OfType → (us : List Word) (x : Expression × List Word) → type_argument_at a us ≡ Some x → Stands (IsCall d a) (t ∷ opening ∷ us) x
  type_stands c within a t w is_name is_given us x h =
      let s = bind_some (type_at us) _ x h in
      let i = type_stands_at us s.0 s.1 in
      let b = closed_is is_close closing is_close_is _ s.0.1 x s.2 in (
        t ∷ opening ∷ (i.0 ++ closing ∷ []),
        ap (λ (v : List Word). t ∷ opening ∷ v) (i.1 ∙ ap (λ (v : List Word). i.0 ++ v) b.0 ∙ sym (append_assoc i.0 (closing ∷ []) x.1)),
        of_type within is_name is_given i.2 (sym b.1) refl,
      )

  given_stands : (c : ℕ) → d ≡ suc c → (g : Given) (a : Expression) (t : Word) (w : List ℕ) → name_of t ≡ Some w → given_of w ≡ Some g → (us : List Word) (x : Expression × List Word) → argument_at inner g a us ≡ Some x → Stands (IsCall d a) (t ∷ opening ∷ us) x
  given_stands c within givens.OfType a t w is_name is_given us x h = type_stands c within a t w is_name is_given us x h
  given_stands c within g a t w is_name is_given us x h = argument_stands c within g a t w is_name is_given us x h

  call_stands : (c : ℕ) → d ≡ suc c → (a : Expression) (t : Word) (w : List ℕ) → name_of t ≡ Some w → (us : List Word) (x : Expression × List Word) → call_at inner a w us ≡ Some x → Stands (IsCall d a) (t ∷ opening ∷ us) x
  unfolding call_at
  call_stands c within a t w is_name [] x h = absurd cc
  call_stands c within a t w is_name (u ∷ us) x h =
      elim (chosen (is_close u) _ _ _ h) [
        | inl is ↦
            let s = bind_some (function_of w) _ x is.1 in
            subst (λ (q : Expression × List Word). Stands (IsCall d a) (t ∷ opening ∷ u ∷ us) q) (some_is (call s.0 a, us) x s.2) (t ∷ opening ∷ closing ∷ [], ap (λ (v : Word). t ∷ opening ∷ v ∷ us) (is_close_is u is.0), plain within is_name s.1 refl refl)
        | inr isnt ↦
            let s = bind_some (given_of w) _ x isnt.1 in
            given_stands c within s.0 a t w is_name s.1 (u ∷ us) x s.2
      ]

calls_stand : (d : ℕ) (inner : Parse)
    (deep : (ts : List Word) (x : Expression × List Word) → inner ts ≡ Some x → (c : ℕ) × (d ≡ suc c) × Stands (Is c 9) ts x)
    (a : Expression) (t : Word) (w : List ℕ) → name_of t ≡ Some w → (us : List Word) (x : Expression × List Word) → calls_at (is_deep d) inner a w us ≡ Some x → Stands (IsCall d a) (t ∷ opening ∷ us) x
unfolding calls_at
calls_stand zero inner deep a t w is_name us x h = absurd cc
calls_stand (suc c) inner deep a t w is_name us x h = call_stands (suc c) inner deep c refl a t w is_name us x h

module _ (d : ℕ) (inner : Parse) (calls : Calls)
    (deep : (ts : List Word) (x : Expression × List Word) → inner ts ≡ Some x → (c : ℕ) × (d ≡ suc c) × Stands (Is c 9) ts x)
    (stand : (a : Expression) (t : Word) (w : List ℕ) → name_of t ≡ Some w → (us : List Word) (x : Expression × List Word) → calls a w us ≡ Some x → Stands (IsCall d a) (t ∷ opening ∷ us) x) where
  named_stands : (P : Expression → List Word → Type 0) (a : Expression) (e : Option Expression) (t : Word) (ts : List Word) (x : Expression × List Word)
      → ((f : Expression) → e ≡ Some f → P f (t ∷ [])) → ((f : Expression) (us : List Word) → IsCall d a f us → P f us) → (o : Option (List Word)) → behind is_open ts ≡ o → call_or calls a e t ts o ≡ Some x → Stands P (t ∷ ts) x
  named_stands P a e t ts x one many (Some us) next h =
      let s = bind_some (name_of t) _ x h in
      let b = behind_is is_open ts us next in
      let k = stand a t s.0 s.1 us x s.2 in
      (k.0, ap (λ (v : List Word). t ∷ v) (b.1 ∙ ap (λ (v : Word). v ∷ us) (is_open_is b.0 b.2)) ∙ k.1, many x.0 k.0 k.2)
  named_stands P a (Some f) t ts x one many None next h = subst (λ (q : Expression × List Word). Stands P (t ∷ ts) q) (some_is (f, ts) x h) (t ∷ [], refl, one f refl)
  named_stands P a None t ts x one many None next h = absurd cc

  primary_stands : (n : ℕ) (ts : List Word) (x : Expression × List Word) → primary_at inner calls ts ≡ Some x → Stands (Is d n) ts x
  unfolding primary_at
  primary_stands n [] x h = absurd cc
  primary_stands n (t ∷ ts) x h =
      elim (chosen (is_open t) _ _ _ h) [
        | inl is ↦
            let s = bind_some (inner ts) _ x is.1 in
            let b = closed_is is_close closing is_close_is s.0.0 s.0.1 x s.2 in
            let i = deep ts s.0 s.1 in (
              opening ∷ (i.2.0 ++ closing ∷ []),
              ap₂ (λ (u : Word) (v : List Word). u ∷ v) (is_open_is t is.0) (i.2.1 ∙ ap (λ (v : List Word). i.2.0 ++ v) b.0 ∙ sym (append_assoc i.2.0 (closing ∷ []) x.1)),
              inside i.1 (subst (λ (e : Expression). Is i.0 9 e i.2.0) b.1 i.2.2) refl,
            )
        | inr isnt ↦ named_stands (Is d n) this (term_of t) t ts x (λ f e. term e refl) (λ f us c. begun c) (behind is_open ts) refl isnt.1
      ]

  module _ (m : ℕ) (part : Parse) (part_stands : (ts : List Word) (x : Expression × List Word) → part ts ≡ Some x → Stands (Is d m) ts x) where
    tail_stands : (a : Expression) (t : Word) (ts : List Word) (x : Expression × List Word) (k : Next) → next_of t ≡ k → looseness k ≡ suc m → tail_at inner calls part a k ts ≡ Some x → Stands (IsTail d m a) (t ∷ ts) x
    unfolding tail_at
    tail_stands a t ts x nexts.Call is loose h = absurd cc
    tail_stands a t [] x nexts.Dot is loose h = absurd cc
    tail_stands a t (u ∷ ts) x nexts.Dot is loose h =
        let first : m ≡ 0 = omega arith in
        let found = named_stands (λ e us. IsTail d m a e (marked marks.Dot ∷ us)) a (child_of a u) u ts x
        (λ f e. let s = bind_some (name_of u) _ f e in member first s.1 refl (sym (some_is (child a s.0) f s.2)))
        (λ f us c. called first c refl) (behind is_open ts) refl h in
        (marked marks.Dot ∷ found.0, ap₂ (λ (v : Word) (w : List Word). v ∷ w) (dot_is t is) found.1, found.2)
    tail_stands a t ts x nexts.Bracket is loose h =
        let first : m ≡ 0 = omega arith in
        let s = bind_some (inner ts) _ x h in
        let b = closed_is is_close_bracket (marked marks.CloseBracket) is_close_bracket_is _ s.0.1 x s.2 in
        let i = deep ts s.0 s.1 in (
          marked marks.OpenBracket ∷ (i.2.0 ++ marked marks.CloseBracket ∷ []),
          ap₂ (λ (u : Word) (v : List Word). u ∷ v) (bracket_is t is) (i.2.1 ∙ ap (λ (v : List Word). i.2.0 ++ v) b.0 ∙ sym (append_assoc i.2.0 (marked marks.CloseBracket ∷ []) x.1)),
          indexed first i.1 i.2.2 refl (sym b.1),
        )
    tail_stands a t ts x (nexts.Typed f) is loose h =
        let s = bind_some (type_at ts) _ x h in
        let i = type_stands_at ts s.0 s.1 in
        subst (λ (q : Expression × List Word). Stands (IsTail d m a) (t ∷ ts) q) (some_is (typed f a s.0.0, s.0.1) x s.2) (t ∷ i.0, ap (λ (v : List Word). t ∷ v) i.1, tested is (omega arith) i.2 refl refl)
    tail_stands a t ts x (nexts.Binary op) is loose h =
        let s = bind_some (part ts) _ x h in
        let p = part_stands ts s.0 s.1 in
        subst (λ (q : Expression × List Word). Stands (IsTail d m a) (t ∷ ts) q) (some_is (binary op a s.0.0, s.0.1) x s.2) (t ∷ p.0, ap (λ (v : List Word). t ∷ v) p.1, operated is (ap looseness is ∙ loose) p.2 refl refl)
    tail_stands a t ts x nexts.Nothing is loose h = absurd cc

    more_stands : (fuel : ℕ) (a : Expression) (xs ts : List Word) (x : Expression × List Word) → Is d (suc m) a xs → more_at (suc m) (tail_at inner calls part) fuel a ts ≡ Some x → Stands (Is d (suc m)) (xs ++ ts) x
    unfolding more_at
    more_stands zero a xs ts x is h = subst (λ (q : Expression × List Word). Stands (Is d (suc m)) (xs ++ ts) q) (some_is (a, ts) x h) (xs, refl, is)
    more_stands (suc fuel) a xs [] x is h = subst (λ (q : Expression × List Word). Stands (Is d (suc m)) (xs ++ []) q) (some_is (a, []) x h) (xs, refl, is)
    more_stands (suc fuel) a xs (t ∷ ts) x is h =
        elim (chosen (eqb (looseness (next_of t)) (suc m)) _ _ _ h) [
          | inl same ↦
              let s = bind_some (tail_at inner calls part a (next_of t) ts) _ x same.1 in
              let grew = tail_stands a t ts s.0 (next_of t) refl (eqb-true (looseness (next_of t)) (suc m) same.0) s.1 in
              let all = more_stands fuel s.0.0 (xs ++ grew.0) s.0.1 x (grown (omega arith) is grew.2 refl) s.2 in
              (all.0, ap (λ (v : List Word). xs ++ v) grew.1 ∙ sym (append_assoc xs grew.0 s.0.1) ∙ all.1, all.2)
          | inr other ↦ subst (λ (q : Expression × List Word). Stands (Is d (suc m)) (xs ++ t ∷ ts) q) (some_is (a, t ∷ ts) x other.1) (xs, refl, is)
        ]

  pub level_stands : (n : ℕ) (ts : List Word) (x : Expression × List Word) → level_at inner calls n ts ≡ Some x → Stands (Is d n) ts x
  unfolding level_at
  level_stands zero ts x h = primary_stands zero ts x h
  level_stands (suc n) ts x h =
      let s = bind_some (level_at inner calls n ts) _ x h in
      let first = level_stands n ts s.0 s.1 in
      let all = more_stands n (level_at inner calls n) (level_stands n) (length s.0.1) s.0.0 first.0 s.0.1 x (looser (omega arith) first.2) s.2 in
      (all.0, first.1 ∙ all.1, all.2)

pub inner_stands : (d : ℕ) (ts : List Word) (x : Expression × List Word) → inner_at d ts ≡ Some x → (c : ℕ) × (d ≡ suc c) × Stands (Is c 9) ts x
unfolding inner_at
inner_stands zero ts x h = absurd cc
inner_stands (suc d) ts x h =
    (d, refl, level_stands d (inner_at d) (calls_at (is_deep d) (inner_at d)) (inner_stands d) (calls_stand d (inner_at d) (inner_stands d)) 9 ts x h)

pub tail_stands_at : (d m : ℕ) (a : Expression) (t : Word) (ts : List Word) (x : Expression × List Word) → looseness (next_of t) ≡ suc m
    → tail_at (inner_at d) (calls_at (is_deep d) (inner_at d)) (at_level d m) a (next_of t) ts ≡ Some x → Stands (IsTail d m a) (t ∷ ts) x
tail_stands_at d m a t ts x loose h =
    let stand = calls_stand d (inner_at d) (inner_stands d) in
    let levels = level_stands d (inner_at d) (calls_at (is_deep d) (inner_at d)) (inner_stands d) stand in
    tail_stands d (inner_at d) (calls_at (is_deep d) (inner_at d)) (inner_stands d) stand m (at_level d m) (levels m) a t ts x (next_of t) refl loose h

pub read_stands : (d : ℕ) (ts : List Word) (e : Expression) → at_level d 9 ts ≡ Some (e, []) → Is d 9 e ts
read_stands d ts e h =
    let s = level_stands d (inner_at d) (calls_at (is_deep d) (inner_at d)) (inner_stands d) (calls_stand d (inner_at d) (inner_stands d)) 9 ts (e, []) h in
    subst (λ (w : List Word). Is d 9 e w) (sym (s.1 ∙ append-nil s.0)) s.2
