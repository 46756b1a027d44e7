-- The values that criteria keep.
use Rattle.std.proofs.Common.{◌≡◌, ℕ, suc, ◌≤◌, Bool, true, false, not, ◌&&◌, ◌||◌, cond, List, [], ◌∷◌, length, Result, Ok, Err, refl, sym, ap, ◌∙◌, arith}
use Rattle.std.specs.Prelude.{nat_eq, if◌then◌else◌}
use Rattle.std.specs.List.{filter, list_any, list_all}
use Rattle.fhir_fp_syntax.specs.Expression.{Expression, filtered}
use Rattle.fhir_fp_syntax.specs.declared.expr.Filter.{Filter}
use Rattle.fhir_fp_syntax.specs.declared.expr.Filter.TheVariants.{Where, Exists, All}
use Rattle.fhir_fp_values.specs.declared.fault.EvalFault.{EvalFault}
use Rattle.fhir_fp_values.specs.Values.{Plain, truth}
use Rattle.fhir_fp_eval.specs.Worlds.{World}
use Rattle.fhir_fp_eval.specs.Meaning.{◌>>=◌, Found, den, criteria_hold, values_where, filtered_by, is_empty, verdict}

kept_step : (r : Result Bool EvalFault) (s : Found) (v : Plain) (us fs : List Plain) → ((ws : List Plain) → s ≡ Ok ws → ws ≡ fs)
    → (r >>= λ b. (s >>= λ ws. Ok (if b then v ∷ ws else ws))) ≡ Ok us → us ≡ cond (verdict r) (v ∷ fs) fs
kept_step (Ok true) (Ok ws) v us fs same h = let e : v ∷ ws ≡ us = cc in sym e ∙ ap (λ (zs : List Plain). v ∷ zs) (same ws refl)
kept_step (Ok false) (Ok ws) v us fs same h = let e : ws ≡ us = cc in sym e ∙ same ws refl
kept_step (Ok b) (Err e) v us fs same h = absurd cc
kept_step (Err e) s v us fs same h = absurd cc

kept_filter : (c : Plain → Found) (vs us : List Plain) → values_where c vs ≡ Ok us → us ≡ filter (λ v. verdict (criteria_hold c v)) vs
unfolding values_where
kept_filter c [] us h = let e : [] ≡ us = cc in sym e
kept_filter c (v ∷ vs) us h = kept_step (criteria_hold c v) (values_where c vs) v us (filter (λ v. verdict (criteria_hold c v)) vs) (kept_filter c vs) h

any_step : (b : Bool) (v : Plain) (us : List Plain) → not (is_empty (cond b (v ∷ us) us)) ≡ (b || not (is_empty us))
any_step true v us = refl
any_step false v us = refl

any_kept : (p : Plain → Bool) (vs : List Plain) → not (is_empty (filter p vs)) ≡ list_any p vs
any_kept p [] = refl
any_kept p (v ∷ vs) = any_step (p v) v (filter p vs) ∙ ap (λ (b : Bool). p v || b) (any_kept p vs)

longer : (b : Bool) (v : Plain) (us : List Plain) (n : ℕ) → length us ≤ n → length (cond b (v ∷ us) us) ≤ suc n
longer true v us n h = omega arith
longer false v us n h = omega arith

no_longer : (p : Plain → Bool) (vs : List Plain) → length (filter p vs) ≤ length vs
no_longer p [] = omega arith
no_longer p (v ∷ vs) = longer (p v) v (filter p vs) (length vs) (no_longer p vs)

all_step : (b : Bool) (v : Plain) (us : List Plain) (n : ℕ) → length us ≤ n → nat_eq (length (cond b (v ∷ us) us)) (suc n) ≡ (b && nat_eq (length us) n)
all_step true v us n h = grind arith
all_step false v us n h = grind arith

all_kept : (p : Plain → Bool) (vs : List Plain) → nat_eq (length (filter p vs)) (length vs) ≡ list_all p vs
all_kept p [] = refl
all_kept p (v ∷ vs) = all_step (p v) v (filter p vs) (length vs) (no_longer p vs) ∙ ap (λ (b : Bool). p v && b) (all_kept p vs)

-- what the function gives, from what is kept
given_step : (r s : Found) (vs us : List Plain) (f : Filter) → r ≡ Ok vs → (r >>= λ vs. (s >>= λ ws. Ok (filtered_by f vs ws))) ≡ Ok us
    → (ws : List Plain) × (s ≡ Ok ws) × (us ≡ filtered_by f vs ws)
given_step (Ok xs) (Ok ws) vs us f is h = let e : filtered_by f xs ws ≡ us = cc in let d : xs ≡ vs = cc in (ws, refl, sym e ∙ ap (λ (zs : List Plain). filtered_by f zs ws) d)
given_step (Ok xs) (Err e) vs us f is h = absurd cc
given_step (Err e) s vs us f is h = absurd cc

module _ (w : World) (a c : Expression) (x : Plain) (vs us : List Plain) (is : den w a x ≡ Ok vs) where
  given : (f : Filter) → den w (filtered f a c) x ≡ Ok us → us ≡ filtered_by f vs (filter (λ v. verdict (criteria_hold (den w c) v)) vs)
  unfolding den
  given f h =
      let here : (values_where (den w c) vs >>= λ ws. Ok (filtered_by f vs ws)) ≡ Ok us =
      sym (ap (λ (r : Found). r >>= λ vs. (values_where (den w c) vs >>= λ ws. Ok (filtered_by f vs ws))) is) ∙ h in
      let p = given_step (Ok vs) (values_where (den w c) vs) vs us f refl here in
      p.2 ∙ ap (filtered_by f vs) (kept_filter (den w c) vs p.0 p.1)

  pub where_keeps : den w (filtered Where a c) x ≡ Ok us → us ≡ filter (λ v. verdict (criteria_hold (den w c) v)) vs
  where_keeps h = given Where h

  pub exists_any : den w (filtered Exists a c) x ≡ Ok us → us ≡ truth (list_any (λ v. verdict (criteria_hold (den w c) v)) vs) ∷ []
  exists_any h = given Exists h ∙ ap (λ (b : Bool). truth b ∷ []) (any_kept (λ v. verdict (criteria_hold (den w c) v)) vs)

  pub all_each : den w (filtered All a c) x ≡ Ok us → us ≡ truth (list_all (λ v. verdict (criteria_hold (den w c) v)) vs) ∷ []
  all_each h = given All h ∙ ap (λ (b : Bool). truth b ∷ []) (all_kept (λ v. verdict (criteria_hold (den w c) v)) vs)
