-- The text of a string, in words of the grammar.
use Rattle.std.proofs.Common.{◌≡◌, ℕ, zero, suc, ◌<◌, true, false, eqb, ◌&&◌, List, [], ◌∷◌, ◌++◌, length, Option, Some, None, refl, sym, ap, ap₂, subst, ◌∙◌, arith, inl, inr}
use Rattle.std.specs.Prelude.{encode_utf8}
use Rattle.std.proofs.lemmas.Bool.{and_parts, eqb-true, ne_eqb, not-true, not_from_false}
use Rattle.std.proofs.lemmas.List.{length-append}
use Rattle.fhir_json.specs.Strings.{code_unit, is_high, is_low, code_point_of}
use Rattle.fhir_json.specs.Reading.{unit_at}
use Rattle.fhir_json.proofs.Takes.{unit_stands}
use Rattle.fhir_fp_syntax.specs.Strings.{short_escape, IsEscape, short, unit, pair, IsText, done, plain, escape, low_half, low_at, unicode_at, escape_at, text_at, text_in}
use Rattle.fhir_fp_syntax.proofs.Options.{bind_some, chosen, some_is, no_some, guard_some}

half_is : (high : ℕ) (o : Option (ℕ × List ℕ)) (s rest : List ℕ) → low_half high o ≡ Some (s, rest)
    → (low : ℕ) × (o ≡ Some (low, rest)) × (is_low low ≡ true) × (s ≡ encode_utf8 (code_point_of high low))
half_is high None s rest e = absurd (no_some (s, rest) e)
half_is high (Some low) s rest e =
    let g = guard_some (is_low low.0) (encode_utf8 (code_point_of high low.0), low.1) (s, rest) e in
    (low.0, ap (λ (r : List ℕ). Some (low.0, r)) (ap (λ (q : List ℕ × List ℕ). q.1) g.1), g.0, sym (ap (λ (q : List ℕ × List ℕ). q.0) g.1))

low_stands : (high : ℕ) (bs s rest : List ℕ) → low_at high bs ≡ Some (s, rest)
    → (a b c d low : ℕ) × (bs ≡ 92 ∷ 117 ∷ a ∷ b ∷ c ∷ d ∷ rest) × (code_unit a b c d ≡ Some low) × (is_low low ≡ true) × (s ≡ encode_utf8 (code_point_of high low))
unfolding low_at
low_stands high [] s rest e = absurd (no_some (s, rest) e)
low_stands high (a ∷ []) s rest e = absurd (no_some (s, rest) e)
low_stands high (a ∷ b ∷ bs) s rest e =
    elim (chosen (eqb a 92 && eqb b 117) _ _ _ e) [
      | inl is ↦
          let both = and_parts (eqb a 92) (eqb b 117) is.0 in
          let half = half_is high (unit_at bs) s rest is.1 in
          let u = unit_stands bs half.0 rest half.1 in (
            u.0,
            u.1,
            u.2,
            u.3,
            half.0,
            ap₂ (λ (x y : ℕ). x ∷ y ∷ bs) (eqb-true a 92 both.0) (eqb-true b 117 both.1) ∙ ap (λ (w : List ℕ). 92 ∷ 117 ∷ w) u.4,
            u.5,
            half.2,
            half.3,
          )
      | inr isnt ↦ absurd (no_some (s, rest) isnt.1)
    ]

unicode_stands : (bs s rest : List ℕ) → unicode_at bs ≡ Some (s, rest) → (e : List ℕ) × (bs ≡ e ++ rest) × IsEscape (117 ∷ e) s
unfolding unicode_at
unicode_stands bs s rest e =
    let step = bind_some (unit_at bs) _ (s, rest) e in
    let u = unit_stands bs step.0.0 step.0.1 step.1 in
    elim (chosen (is_high step.0.0) _ _ _ step.2) [
      | inl is ↦
          let l = low_stands step.0.0 step.0.1 s rest is.1 in (
            u.0 ∷ u.1 ∷ u.2 ∷ u.3 ∷ 92 ∷ 117 ∷ l.0 ∷ l.1 ∷ l.2 ∷ l.3 ∷ [],
            u.4 ∙ ap (λ (w : List ℕ). u.0 ∷ u.1 ∷ u.2 ∷ u.3 ∷ w) l.5,
            pair u.5 is.0 l.6 l.7 l.8,
          )
      | inr isnt ↦
          elim (chosen (is_low step.0.0) _ _ _ isnt.1) [
            | inl low ↦ absurd (no_some (s, rest) low.1)
            | inr neither ↦
                let p = some_is (encode_utf8 step.0.0, step.0.1) (s, rest) neither.1 in (
                  u.0 ∷ u.1 ∷ u.2 ∷ u.3 ∷ [],
                  u.4 ∙ ap (λ (q : List ℕ × List ℕ). u.0 ∷ u.1 ∷ u.2 ∷ u.3 ∷ q.1) p,
                  unit u.5 isnt.0 neither.0 (sym (ap (λ (q : List ℕ × List ℕ). q.0) p)),
                )
          ]
    ]

escape_stands : (bs s rest : List ℕ) → escape_at bs ≡ Some (s, rest) → (e : List ℕ) × (bs ≡ e ++ rest) × IsEscape e s
unfolding escape_at
escape_stands [] s rest e = absurd (no_some (s, rest) e)
escape_stands (b ∷ bs) s rest e =
    elim (chosen (eqb b 117) _ _ _ e) [
      | inl is ↦ let u = unicode_stands bs s rest is.1 in (117 ∷ u.0, ap₂ (λ (x : ℕ) (w : List ℕ). x ∷ w) (eqb-true b 117 is.0) u.1, u.2)
      | inr isnt ↦
          let step = bind_some (short_escape b) _ (s, rest) isnt.1 in
          let p = some_is (step.0 ∷ [], bs) (s, rest) step.2 in (
            b ∷ [],
            ap (λ (q : List ℕ × List ℕ). b ∷ q.1) p,
            subst (λ (x : List ℕ). IsEscape (b ∷ []) x) (ap (λ (q : List ℕ × List ℕ). q.0) p) (short step.1),
          )
    ]

text_stands : (n : ℕ) (bs s : List ℕ) → text_at n bs ≡ Some s → IsText bs s
unfolding text_at
text_stands zero bs s e = absurd (no_some s e)
text_stands (suc n) [] s e = subst (λ (x : List ℕ). IsText [] x) (some_is [] s e) done
text_stands (suc n) (b ∷ bs) s e =
    elim (chosen (eqb b 92) _ _ _ e) [
      | inl slash ↦
          let step = bind_some (escape_at bs) _ s slash.1 in
          let later = bind_some (text_at n step.0.1) _ s step.2 in
          let x = escape_stands bs step.0.0 step.0.1 step.1 in
          let y = text_stands n step.0.1 later.0 later.1 in
          escape x.2 y (ap₂ (λ (c : ℕ) (w : List ℕ). c ∷ w) (eqb-true b 92 slash.0) x.1) (sym (some_is (step.0.0 ++ later.0) s later.2))
      | inr other ↦
          let later = bind_some (text_at n bs) _ s other.1 in
          subst (λ (x : List ℕ). IsText (b ∷ bs) x) (some_is (b ∷ later.0) s later.2) (plain (not_from_false (eqb b 92) other.0) (text_stands n bs later.0 later.1))
    ]

pub text_in_stands : (v s : List ℕ) → text_in v ≡ Some s → IsText v s
unfolding text_in
text_in_stands v s h = text_stands (suc (length v)) v s h

escape_again : {e s : List ℕ} → IsEscape e s → (rest : List ℕ) → escape_at (e ++ rest) ≡ Some (s, rest)
unfolding escape_at unicode_at low_at unit_at
escape_again (short {e} {c} h) rest =
    let other : eqb e 117 ≡ false = ne_eqb e 117 (λ (is : e ≡ 117). absurd (no_escape c (subst (λ (x : ℕ). short_escape x ≡ Some c) is h))) in
    rw (other, h) refl
  where
    no_escape : (c : ℕ) → short_escape 117 ≡ Some c → ⊥
    no_escape c h = cc
escape_again (unit p x y is) rest = rw (p, x, y, is) refl
escape_again (pair p x k y is) rest = rw (p, x, k, y, is) refl

text_again : {v s : List ℕ} → IsText v s → (n : ℕ) → length v < n → text_at n v ≡ Some s
unfolding text_at
text_again done zero h = absurd (omega arith)
text_again done (suc n) h = refl
text_again (plain {b} {v} {s} p t) zero h = absurd (omega arith)
text_again (plain {b} {v} {s} p t) (suc n) h = rw (not-true _ p, text_again t n (omega arith)) refl
text_again (escape {e} {c} {v} {s} {w} {t} x y is gives) n h =
    subst (λ (u : List ℕ). text_at n u ≡ Some t) (sym is) (go n (subst (λ (u : List ℕ). length u < n) is h) (λ m k. text_again y m k))
  where
    go : (n : ℕ) → length (92 ∷ (e ++ v)) < n → ((m : ℕ) → length v < m → text_at m v ≡ Some s) → text_at n (92 ∷ (e ++ v)) ≡ Some t
    go zero h later = absurd (omega arith)
    go (suc n) h later = rw (escape_again x v, later n (omega (arith, length-append e v)), gives) refl

pub text_in_again : (v s : List ℕ) → IsText v s → text_in v ≡ Some s
unfolding text_in
text_in_again v s h = text_again h (suc (length v)) (omega arith)
