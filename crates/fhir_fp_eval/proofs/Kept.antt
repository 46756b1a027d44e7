-- Keeping values, one turn at a time.
use Rattle.std.proofs.Common.{◌≡◌, ℕ, ◌+◌, ◌<◌, ◌≤◌, Bool, true, false, cond, List, [], ◌∷◌, ◌++◌, length, get_or, drop, Result, Ok, Err, refl, sym, ap, ◌∙◌, append_assoc}
use Rattle.std.proofs.lemmas.List.{drop_more, drop_all, append-nil}
use Rattle.fhir_json.specs.Memory.{IsFault}
use Rattle.fhir_fp_values.specs.declared.fault.EvalFault.{EvalFault}
use Rattle.fhir_fp_values.specs.declared.value.Value.{Value}
use Rattle.fhir_fp_values.specs.Faults.{is_no_memory}
use Rattle.fhir_fp_values.specs.Values.{Plain}
use Rattle.fhir_fp_values.specs.Views.{plain_of, plains_of}
use Rattle.fhir_fp_eval.specs.Meaning.{◌>>=◌, Found, criteria_hold, values_where, with_next}

-- what was kept before, and then the rest
abbrev pub in_front : List Plain → Found → Found
in_front us r = r >>= λ ws. Ok (us ++ ws)

fault_bind : {A B : Type 0} (none : Bool) (e : EvalFault) (r : Result A EvalFault) (f : A → Result B EvalFault) (whole : Result B EvalFault) → whole ≡ (r >>= f)
    → IsFault none e r → IsFault none e whole
fault_bind true e r f whole is h = tt
fault_bind false e r f whole is h = is ∙ ap (λ x. x >>= f) h

bind_bind : {A B C : Type 0} (r : Result A EvalFault) (f : A → Result B EvalFault) (g : B → Result C EvalFault) → ((r >>= f) >>= g) ≡ (r >>= (λ x. f x >>= g))
bind_bind (Ok x) f g = refl
bind_bind (Err e) f g = refl

next : (b : Bool) (front : List Plain) (v : Plain) (r : Found) → in_front front (r >>= λ ws. Ok (cond b (v ∷ ws) ws)) ≡ in_front (with_next b front v) r
next true front v (Ok ws) = ap (λ (us : List Plain). Ok us) (sym (append_assoc front (v ∷ []) ws))
next false front v (Ok ws) = refl
next b front v (Err e) = refl

module _ (c : Plain → Found) (vs : List Value) (i : ℕ) (x : Value) (below : i < length vs) (is : x ≡ get_or vs i x) (whole : Found) (front : List Plain)
    (so_far : in_front front (values_where c (plains_of (drop i vs))) ≡ whole) where
  opened : whole ≡ (criteria_hold c (plain_of x) >>= λ b. in_front front (values_where c (plains_of (drop (i + 1) vs)) >>= λ ws. Ok (cond b (plain_of x ∷ ws) ws)))
  unfolding values_where
  opened =
      let now : plains_of (drop i vs) ≡ plain_of x ∷ plains_of (drop (i + 1) vs) = ap plains_of (drop_more vs i x below) ∙ ap (λ (y : Value). plain_of y ∷ plains_of (drop (i + 1) vs)) (sym is) in
      sym so_far ∙ ap (λ us. in_front front (values_where c us)) now ∙ bind_bind (criteria_hold c (plain_of x)) _ _

  pub kept_fails : (e : EvalFault) → IsFault (is_no_memory e) e (criteria_hold c (plain_of x)) → IsFault (is_no_memory e) e whole
  kept_fails e h = fault_bind (is_no_memory e) e (criteria_hold c (plain_of x)) _ whole opened h

  pub kept_goes : (b : Bool) → criteria_hold c (plain_of x) ≡ Ok b → in_front (with_next b front (plain_of x)) (values_where c (plains_of (drop (i + 1) vs))) ≡ whole
  kept_goes b h =
      sym (opened ∙ ap (λ (r : Result Bool EvalFault). r >>= (λ b. in_front front (values_where c (plains_of (drop (i + 1) vs)) >>= λ ws. Ok (cond b (plain_of x ∷ ws) ws)))) h ∙ next b front (plain_of x) (values_where c (plains_of (drop (i + 1) vs))))

pub kept_ends : (c : Plain → Found) (vs : List Value) (i : ℕ) (whole : Found) (front : List Plain) → length vs ≤ i → in_front front (values_where c (plains_of (drop i vs))) ≡ whole → whole ≡ Ok front
unfolding values_where
kept_ends c vs i whole front h so_far =
    sym so_far ∙ ap (λ (us : List Value). in_front front (values_where c (plains_of us))) (drop_all i vs h) ∙ ap (λ (us : List Plain). Ok us) (append-nil front)
