-- Steps that may give nothing.
use Rattle.std.proofs.Common.{◌≡◌, ℕ, Bool, true, false, cond, List, [], ◌∷◌, ◌++◌, Option, Some, None, refl, sym, ap, ◌∙◌, append_assoc, inl, inr, ◌⊎◌, ap₂}
use Rattle.std.specs.Prelude.{bytes_eq, nat_eq}
use Rattle.std.proofs.lemmas.Bool.{and_parts, eqb-true}
use Rattle.fhir_fp_syntax.specs.declared.token.Stop.{Stop}
use Rattle.fhir_fp_syntax.specs.declared.token.Stop.TheVariants as stops
use Rattle.fhir_fp_syntax.specs.Answers.{◌>>=◌, Fails}

pub bind_some : {A B : Type 0} (o : Option A) (f : A → Option B) (y : B) → (o >>= f) ≡ Some y → (x : A) × (o ≡ Some x) × (f x ≡ Some y)
bind_some (Some x) f y e = (x, refl, e)
bind_some None f y e = absurd cc

pub chosen : {A : Type 0} (b : Bool) (x y z : A) → cond b x y ≡ z → ((b ≡ true) × (x ≡ z)) ⊎ ((b ≡ false) × (y ≡ z))
chosen true x y z e = inl (refl, e)
chosen false x y z e = inr (refl, e)

pub guard_some : {A : Type 0} (b : Bool) (x y : A) → cond b (Some x) None ≡ Some y → (b ≡ true) × (x ≡ y)
guard_some true x y e = (refl, cc)
guard_some false x y e = absurd cc

abbrev pub some : {A : Type 0} → A → Option A
some x = Some x

abbrev pub none : {A : Type 0} → Option A
none = None

pub some_is : {A : Type 0} (x y : A) → some x ≡ some y → x ≡ y
some_is x y e = cc

pub no_some : {A : Type 0} (x : A) → none ≡ some x → ⊥
no_some x e = cc

-- what the first step lacks the whole lacks
pub Fails-bind : {A B : Type 0} (e : Stop) (r : Option A) (f : A → Option B) (whole : Option B) → whole ≡ (r >>= f) → Fails e r → Fails e whole
Fails-bind stops.Unread r f whole is h = is ∙ ap (λ x. x >>= f) h
Fails-bind stops.NoMemory r f whole is h = tt

-- ---- a list behind a front

abbrev pub behind_front : {A : Type 0} → List A → Option (List A) → Option (List A)
behind_front front r = r >>= λ s. Some (front ++ s)

pub front_nil : {A : Type 0} (r : Option (List A)) → r ≡ behind_front [] r
front_nil (Some s) = refl
front_nil None = refl

pub front_front : {A : Type 0} (a b : List A) (r : Option (List A)) → behind_front a (behind_front b r) ≡ behind_front (a ++ b) r
front_front a b (Some s) = ap (λ (x : List _). Some x) (sym (append_assoc a b s))
front_front a b None = refl

pub front_bind : {A B : Type 0} (a : List A) (r : Option (List A × B)) (f : B → Option (List A))
    → behind_front a (r >>= (λ c. behind_front c.0 (f c.1))) ≡ (r >>= (λ c. behind_front (a ++ c.0) (f c.1)))
front_bind a (Some c) f = front_front a c.0 (f c.1)
front_bind a None f = refl

-- ---- equal bytes

pub bytes_same : (p q : List ℕ) → bytes_eq p q ≡ true → p ≡ q
bytes_same [] [] h = refl
bytes_same [] (y ∷ q) h = absurd cc
bytes_same (x ∷ p) [] h = absurd cc
bytes_same (x ∷ p) (y ∷ q) h =
    let both = and_parts (nat_eq x y) (bytes_eq p q) h in
    ap₂ (λ (c : ℕ) (w : List ℕ). c ∷ w) (eqb-true x y both.0) (bytes_same p q both.1)
