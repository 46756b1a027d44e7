-- Ids that stand below others, and lists of ids of which none stands below another.
use Rattle.std.proofs.Common.{◌≡◌, ◌<◌, ◌≤◌, ℕ, zero, suc, List, [], ◌∷◌, ◌++◌, length, None, Some, refl, ap, sym, ◌∙◌, subst, inl, inr, ◌⊎◌, arith}
use Rattle.std.proofs.lemmas.Option.{none-some, same_Some}
use Rattle.fhir_json.specs.Tree.{Text}
use Rattle.fhir_definition.specs.Snapshot.{up_of}
use Rattle.snapshot_laws.proofs.Among.{In, Each, Differ, in_cases}
use Rattle.snapshot_laws.proofs.Ups.{shorter}

-- ---- one id below another

-- so many steps lead up from the first to the second
abbrev pub Rises : ℕ → Text → Text → Type 0
Rises zero x y = x ≡ y
Rises (suc k) x y = (up : Text) × (up_of x ≡ Some up) × Rises k up y

abbrev pub Below : Text → Text → Type 0
Below x y = (k : ℕ) × Rises k x y

not_longer : (k : ℕ) (x y : Text) → Rises k x y → length y ≤ length x
not_longer zero x y e = let same : length x ≡ length y = ap length e in omega arith
not_longer (suc k) x y r =
    let rest : length y ≤ length r.0 = not_longer k r.0 y r.2 in
    let less : length r.0 < length x = shorter x r.0 r.1 in
    omega arith

-- nothing stands above what stands below it
pub none_above : (x y : Text) → up_of y ≡ Some x → Below x y → ⊥
none_above x y e b =
    let one : length y ≤ length x = not_longer b.0 x y b.1 in
    let less : length x < length y = shorter y x e in
    omega arith

higher : (k : ℕ) (x y up : Text) → Rises k x y → up_of y ≡ Some up → Rises (suc k) x up
higher zero x y up e is = (up, ap up_of e ∙ is, refl)
higher (suc k) x y up r is = (r.0, r.1, higher k r.0 y up r.2 is)

pub below_up : (x y up : Text) → Below x y → up_of y ≡ Some up → Below x up
below_up x y up b e = (suc b.0, higher b.0 x y up b.1 e)

-- what stands below something is it, or what it stands under does
pub below_cases : (x y up : Text) → up_of x ≡ Some up → Below x y → (x ≡ y) ⊎ Below up y
below_cases x y up e (zero, is) = inl is
below_cases x y up e (suc k, r) = inr (k, subst (λ (z : Text). Rises k z y) (same_Some r.0 up (sym r.1 ∙ e)) r.2)

root_below : (x y : Text) → up_of x ≡ None → Below x y → x ≡ y
root_below x y none (zero, is) = is
root_below x y none (suc k, r) = absurd (none-some r.0 (sym none ∙ r.1))

-- ---- none of them below another

abbrev pub Apart : Text → Text → Type 0
Apart x y = (Below x y → ⊥) × (Below y x → ⊥)

abbrev pub Free : List Text → Type 0
Free [] = Unit {0}
Free (x ∷ xs) = Each (Apart x) xs × Free xs

free_both : (xs ys : List Text) → Free xs → Free ys → ((x y : Text) → In x xs → In y ys → Apart x y) → Free (xs ++ ys)
free_both [] ys one other apart = other
free_both (x ∷ xs) ys one other apart = (
  λ y h. elim (in_cases y xs ys h) [ inl left ↦ one.0 y left | inr right ↦ apart x y (inl refl) right ],
  free_both xs ys one.1 other (λ z y h. apart z y (inr h)),
)

pub free_roots : (xs : List Text) → Differ xs → Each (λ x. up_of x ≡ None) xs → Free xs
free_roots [] d none = tt
free_roots (x ∷ xs) d none = (
  λ y h. (
    λ b. d.0 (subst (λ (z : Text). In z xs) (sym (root_below x y (none x (inl refl)) b)) h),
    λ b. d.0 (subst (λ (z : Text). In z xs) (root_below y x (none y (inr h)) b) h),
  ),
  free_roots xs d.1 (λ y h. none y (inr h)),
)

siblings_apart : (up x y : Text) → up_of x ≡ Some up → up_of y ≡ Some up → (x ≡ y → ⊥) → Below x y → ⊥
siblings_apart up x y one other unlike b =
    elim (below_cases x y up one b) [
      | inl e ↦ unlike e
      | inr above ↦ none_above up y other above
    ]

free_siblings : (up : Text) (xs : List Text) → Differ xs → Each (λ x. up_of x ≡ Some up) xs → Free xs
free_siblings up [] d ups = tt
free_siblings up (x ∷ xs) d ups = (
  λ y h. (
    siblings_apart up x y (ups x (inl refl)) (ups y (inr h)) (λ e. d.0 (subst (λ (z : Text). In z xs) (sym e) h)),
    siblings_apart up y x (ups y (inr h)) (ups x (inl refl)) (λ e. d.0 (subst (λ (z : Text). In z xs) e h)),
  ),
  free_siblings up xs d.1 (λ y h. ups y (inr h)),
)

child_apart : (id x y : Text) → up_of x ≡ Some id → Apart id y → Apart x y
child_apart id x y e apart = (
  λ b. elim (below_cases x y id e b) [
    | inl same ↦ apart.1 (1, (id, ap up_of (sym same) ∙ e, refl))
    | inr above ↦ apart.0 above
  ],
  λ b. apart.1 (below_up y x id b e),
)

-- what stands under an id may take its place
pub free_under : (id : Text) (xs rest : List Text) → Differ xs → Each (λ x. up_of x ≡ Some id) xs → Free (id ∷ rest) → Free (xs ++ rest)
free_under id xs rest d ups free =
    free_both xs rest (free_siblings id xs d ups) free.1 (λ x y h more. child_apart id x y (ups x h) (free.0 y more))
