-- One more of a list.
use Rattle.std.proofs.Common.{◌≡◌, ℕ, zero, suc, ◌+◌, ◌<◌, Bool, true, false, ◌&&◌, ◌||◌, List, [], ◌∷◌, ◌++◌, length, get_or, take, drop, map, refl, sym, ap, ◌∙◌, add-one, drop-cons, arith}
use Rattle.std.proofs.lemmas.List.Folds.{list_any-append}
use Rattle.std.specs.List.{list_all, list_any}
use Rattle.fhir_json.specs.Tree.{Text}

taken_next : {X : Type 0} (v : X → Text) (xs : List X) (i : ℕ) (x : X) → i < length xs → x ≡ get_or xs i x
    → map v (take (suc i) xs) ≡ map v (take i xs) ++ v x ∷ []
taken_next v [] i x lt is = absurd (omega arith)
taken_next {X} v (y ∷ ys) zero x lt is = ap (λ (z : X). v z ∷ []) (sym is)
taken_next v (y ∷ ys) (suc i) x lt is = ap (λ (zs : List Text). v y ∷ zs) (taken_next v ys i x (omega arith) is)

pub taken : {X : Type 0} (v : X → Text) (xs : List X) (i : ℕ) (x : X) → i < length xs → x ≡ get_or xs i x
    → map v (take (i + 1) xs) ≡ map v (take i xs) ++ v x ∷ []
taken v xs i x lt is = ap (λ (n : ℕ). map v (take n xs)) (add-one i) ∙ taken_next v xs i x lt is

pub any_more : (p : Text → Bool) (xs : List Text) (x : Text) → list_any p (xs ++ x ∷ []) ≡ (list_any p xs || p x)
any_more p xs x = list_any-append p xs (x ∷ []) ∙ ap (λ (b : Bool). list_any p xs || b) (or_none (p x))
  where
    or_none : (b : Bool) → (b || false) ≡ b
    or_none true = refl
    or_none false = refl

pub all_next : {X : Type 0} (p : Text → Bool) (v : X → Text) (xs : List X) (i : ℕ) (x : X) → i < length xs → x ≡ get_or xs i x
    → list_all p (map v (drop i xs)) ≡ (p (v x) && list_all p (map v (drop (i + 1) xs)))
all_next {X} p v xs i x lt is =
    let cut : drop i xs ≡ x ∷ drop (i + 1) xs =
    drop-cons xs i x lt ∙ ap (λ (y : X). y ∷ drop (suc i) xs) (sym is) ∙ sym (ap (λ (n : ℕ). x ∷ drop n xs) (add-one i)) in
    ap (λ (ys : List X). list_all p (map v ys)) cut
