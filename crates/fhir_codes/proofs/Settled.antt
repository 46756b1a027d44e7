-- As many steps as there are value sets are enough.
use Rattle.std.proofs.Common.{◌≡◌, ◌⊎◌, ℕ, zero, suc, ◌+◌, ◌<◌, ◌≤◌, length, Bool, true, false, Option, Some, None, is_some, refl, sym, ◌∙◌, ap, inl, inr, arith}
use mathlib.Core.Bool.{false≢true}
use Rattle.std.specs.List.{slice_get}
use Rattle.std.specs.Option.{option_map, option_and_then}
use Rattle.std.proofs.lemmas.Bool.{cases_lt}
use Rattle.std.proofs.lemmas.Option.{slice_get_past}
use Rattle.fhir_json.specs.Tree.{Text, Tree}
use Rattle.fhir_package.specs.declared.kind.Kind.TheVariants.{ValueSet}
use Rattle.fhir_package.specs.Definitions.{Definitions}
use Rattle.fhir_package.specs.Canonical.{named_by}
use Rattle.fhir_codes.specs.Concepts.{Concepts}
use Rattle.fhir_codes.specs.ValueSets.{named, expansion, expanded, concepts_of}
use Rattle.fhir_codes.specs.Least.{IsClosed}
use Rattle.fhir_codes.specs.Placing.{place_named, tree_at}
use Rattle.fhir_codes.proofs.Places.{named_tree}
use Rattle.fhir_codes.proofs.Rounds.{Known, IsBelow, no_some, step, step_more, all_more, is_some_at, read_parts_of, expansion_more, expanded_more}

-- ---- how many of the first numbers pass a test

abbrev one_if : Bool → ℕ
one_if true = 1
one_if false = 0

abbrev passing : (ℕ → Bool) → ℕ → ℕ
passing r zero = 0
passing r (suc k) = one_if (r k) + passing r k

one_most : (b : Bool) → one_if b ≤ 1
one_most true = omega arith
one_most false = omega arith

one_more : (a b : Bool) → (a ≡ true → b ≡ true) → one_if a ≤ one_if b
one_more false b h = omega arith
one_more true b h = let e : one_if b ≡ 1 = ap one_if (h refl) in omega arith

one_is : (a : Bool) → 1 ≤ one_if a → a ≡ true
one_is true h = refl
one_is false h = absurd (omega arith)

most : (r : ℕ → Bool) (m : ℕ) → passing r m ≤ m
most r zero = omega arith
most r (suc m) = let a = most r m in let b = one_most (r m) in omega arith

more : (r s : ℕ → Bool) → ((k : ℕ) → r k ≡ true → s k ≡ true) → (m : ℕ) → passing r m ≤ passing s m
more r s h zero = omega arith
more r s h (suc m) = let a = more r s h m in let b = one_more (r m) (s m) (h m) in omega arith

same_count : (r s : ℕ → Bool) → ((k : ℕ) → r k ≡ true → s k ≡ true) → (m : ℕ) → passing s m ≤ passing r m → (k : ℕ) → k < m → s k ≡ true → r k ≡ true
same_count r s h zero le k lt is = absurd (omega arith)
same_count r s h (suc m) le k lt is =
    let a : passing r m ≤ passing s m = more r s h m in
    let b : one_if (r m) ≤ one_if (s m) = one_more (r m) (s m) (h m) in
    let last : one_if (s m) ≤ one_if (r m) = omega arith in
    let others : passing s m ≤ passing r m = omega arith in
    elim (cases_lt k m) [
      | inl below ↦ same_count r s h m others k below is
      | inr above ↦
          let e : k ≡ m = omega arith in
          let one : one_if (s m) ≡ 1 = ap one_if (ap s (sym e) ∙ is) in
          ap r e ∙ one_is (r m) (omega arith)
    ]

all_pass : (r : ℕ → Bool) (m : ℕ) → m ≤ passing r m → (k : ℕ) → k < m → r k ≡ true
all_pass r zero le k lt = absurd (omega arith)
all_pass r (suc m) le k lt =
    let a = most r m in
    let b = one_most (r m) in
    elim (cases_lt k m) [
      | inl below ↦ all_pass r m (omega arith) k below
      | inr above ↦ let e : k ≡ m = omega arith in ap r e ∙ one_is (r m) (omega arith)
    ]

-- ---- steps at places

-- what can be told at a place in so many steps
abbrev placed : Definitions → ℕ → ℕ → Option Concepts
placed p zero place = None
placed p (suc n) place = option_and_then (expansion p (expanded p n)) (tree_at p place)

then_none : {A B : Type 0} (f : A → Option B) → ((x : A) → f x ≡ None) → (o : Option A) → None ≡ option_and_then f o
then_none f h None = refl
then_none f h (Some x) = sym (h x)

pub then_then : {A B C : Type 0} (f : B → Option C) (g : A → Option B) (o : Option A) → option_and_then f (option_and_then g o) ≡ option_and_then (λ x. option_and_then f (g x)) o
then_then f g None = refl
then_then f g (Some x) = refl

expanded_placed : (p : Definitions) (n : ℕ) (canonical : Text) → expanded p n canonical ≡ option_and_then (placed p n) (place_named p canonical)
expanded_placed p zero canonical = then_none (placed p zero) (λ _. refl) (place_named p canonical)
expanded_placed p (suc n) canonical =
    ap (option_and_then (expansion p (expanded p n))) (named_tree p canonical)
    ∙ then_then (expansion p (expanded p n)) (tree_at p) (place_named p canonical)

then_more : {A B : Type 0} (f g : A → Option B) (o : Option A) (y : B) → ((x : A) → f x ≡ Some y → g x ≡ Some y) → option_and_then f o ≡ Some y → option_and_then g o ≡ Some y
then_more f g None y h e = e
then_more f g (Some x) y h e = h x e

placed_more : (p : Definitions) (n place : ℕ) (s : Concepts) → placed p n place ≡ Some s → placed p (suc n) place ≡ Some s
placed_more p zero place s e = no_some s e
placed_more p (suc n) place s e =
    then_more (expansion p (expanded p n)) (expansion p (expanded p (suc n))) (tree_at p place) s (λ t. expansion_more p (expanded p n) (expanded p (suc n)) (expanded_more p n) t s) e

abbrev told : Definitions → ℕ → ℕ → Bool
told p n place = is_some (placed p n place)

told_more : (p : Definitions) (n place : ℕ) → told p n place ≡ true → told p (suc n) place ≡ true
told_more p n place is =
    let at = is_some_at (placed p n place) is in ap is_some (placed_more p n place at.0 at.1)

-- one more step tells no more
abbrev IsFixed : Definitions → ℕ → Type 0
IsFixed p n = (place : ℕ) → told p (suc n) place ≡ true → told p n place ≡ true

placed_back : (p : Definitions) (n : ℕ) → IsFixed p n → (place : ℕ) (s : Concepts) → placed p (suc n) place ≡ Some s → placed p n place ≡ Some s
placed_back p n fixed place s e =
    let at = is_some_at (placed p n place) (fixed place (ap is_some e)) in
    at.1 ∙ sym (placed_more p n place at.0 at.1) ∙ e

fixed_below : (p : Definitions) (n : ℕ) → IsFixed p n → IsBelow (expanded p (suc n)) (expanded p n)
fixed_below p n fixed canonical s e =
    expanded_placed p n canonical
    ∙ then_more (placed p (suc n)) (placed p n) (place_named p canonical) s (λ place. placed_back p n fixed place s) (sym (expanded_placed p (suc n) canonical) ∙ e)

fixed_next : (p : Definitions) (n : ℕ) → IsFixed p n → IsFixed p (suc n)
fixed_next p n fixed place is =
    let at = is_some_at (placed p (suc (suc n)) place) is in
    ap is_some
    (then_more (expansion p (expanded p (suc n))) (expansion p (expanded p n)) (tree_at p place) at.0
    (λ t. expansion_more p (expanded p (suc n)) (expanded p n) (fixed_below p n fixed) t at.0) at.1)

none_placed : (p : Definitions) (n place : ℕ) → slice_get p.value_sets place ≡ None → placed p (suc n) place ≡ None
none_placed p n place e = ap (λ o. option_and_then (expansion p (expanded p n)) (option_map (λ e. e.1) o)) e

told_within : (p : Definitions) (n place : ℕ) → told p (suc n) place ≡ true → place < length p.value_sets
told_within p n place is = elim (cases_lt place (length p.value_sets)) [
  | inl below ↦ below
  | inr past ↦ absurd (false≢true (sym (ap is_some (none_placed p n place (slice_get_past p.value_sets place past))) ∙ is))
]

grows_or_fixed : (p : Definitions) (n : ℕ) → (n ≤ passing (told p n) (length p.value_sets)) ⊎ IsFixed p n
grows_or_fixed p zero = inl (omega arith)
grows_or_fixed p (suc n) = elim (grows_or_fixed p n) [
  | inr fixed ↦ inr (fixed_next p n fixed)
  | inl many ↦ elim (cases_lt (passing (told p n) (length p.value_sets)) (passing (told p (suc n)) (length p.value_sets))) [
    | inl grown ↦ inl (omega arith)
    | inr stays ↦ inr (fixed_next p n (λ place is. same_count (told p n) (told p (suc n)) (told_more p n) (length p.value_sets) stays place (told_within p n place is) is))
  ]
]

fixed_last : (p : Definitions) → IsFixed p (length p.value_sets)
fixed_last p place is = elim (grows_or_fixed p (length p.value_sets)) [
  | inl many ↦ all_pass (told p (length p.value_sets)) (length p.value_sets) many place (told_within p (length p.value_sets) place is)
  | inr fixed ↦ fixed place is
]

-- ---- the laws

pub both_below : {A : Type 0} (a b : Option A) → ((x : A) → a ≡ Some x → b ≡ Some x) → ((x : A) → b ≡ Some x → a ≡ Some x) → a ≡ b
both_below None None h k = refl
both_below None (Some y) h k = k y refl
both_below (Some x) b h k = sym (h x refl)

-- one step more than the last tells the same
pub concepts_step : (p : Definitions) (canonical : Text) → concepts_of p canonical ≡ step p (concepts_of p) canonical
concepts_step p canonical =
    both_below (concepts_of p canonical) (expanded p (suc (length p.value_sets)) canonical)
    (expanded_more p (length p.value_sets) canonical) (fixed_below p (length p.value_sets) (fixed_last p) canonical)

-- no number of steps tells more than the last
pub expanded_most : (p : Definitions) (n : ℕ) → IsBelow (expanded p n) (concepts_of p)
expanded_most p zero canonical s e = no_some s e
expanded_most p (suc n) canonical s e = concepts_step p canonical ∙ step_more p (expanded p n) (concepts_of p) (expanded_most p n) canonical s e

read_closed : (p : Definitions) (f : Known) (other : Text → Bool) → IsClosed p other → ((canonical : Text) (s : Concepts) → f canonical ≡ Some s → other canonical ≡ true)
    → (canonical : Text) (o : Option Tree) → named_by ValueSet canonical p ≡ o → (s : Concepts) → option_and_then (expansion p f) o ≡ Some s → other canonical ≡ true
read_closed p f other closed below canonical None at s e = no_some s e
read_closed p f other closed below canonical (Some t) at s e =
    let parts = read_parts_of p f t s e in
    closed canonical t at parts.0 (all_more (λ c. is_some (f c)) other (λ c is. let known = is_some_at (f c) is in below c known.0 known.1) (named t) parts.1)

least_expanded : (p : Definitions) (other : Text → Bool) → IsClosed p other → (n : ℕ) (canonical : Text) (s : Concepts) → expanded p n canonical ≡ Some s → other canonical ≡ true
least_expanded p other closed zero canonical s e = no_some s e
least_expanded p other closed (suc n) canonical s e =
    read_closed p (expanded p n) other closed (least_expanded p other closed n) canonical (named_by ValueSet canonical p) refl s e

pub least_read : (p : Definitions) (other : Text → Bool) (canonical : Text) → IsClosed p other → is_some (concepts_of p canonical) ≡ true → other canonical ≡ true
least_read p other canonical closed is =
    let at = is_some_at (concepts_of p canonical) is in least_expanded p other closed (length p.value_sets) canonical at.0 at.1
