-- What the discriminators of the elements of a definition are, one element by one.
use Rattle.std.proofs.Common.{◌≡◌, ℕ, zero, suc, Bool, true, false, ◌&&◌, ◌++◌, ◌+◌, List, [], ◌∷◌, map, zero-add, length, get_or, Some, None, refl, ap, sym, ◌∙◌, nat_lt}
use Rattle.std.specs.List.{slice_get, list_all, range_with_len}
use Rattle.std.proofs.lemmas.Bool.{ltb-true, ltb-false}
use Rattle.std.proofs.lemmas.List.{map-append}
use Rattle.std.proofs.lemmas.List.Folds.{list_all-append}
use Rattle.std.proofs.lemmas.List.FromFn.{map-range_with_len_more}
use Rattle.std.proofs.lemmas.Option.{slice_get_read, slice_get_past, none-some, same_Some}

-- two lists that show the same have the same at each place
pub same_shown : {A B C : Type 0} (f : A → C) (g : B → C) (xs : List A) (ys : List B) (i : ℕ) (d : A) (y : B)
    → map f xs ≡ map g ys → slice_get ys i ≡ Some y → f (get_or xs i d) ≡ g y
same_shown f g [] [] i d y e there = absurd (none-some y there)
same_shown f g [] (b ∷ ys) i d y e there = absurd (no_more e)
  where
    no_more : [] ≡ g b ∷ map g ys → ⊥
    no_more e = cc
same_shown f g (a ∷ xs) [] i d y e there = absurd (none-some y there)
same_shown f g (a ∷ xs) (b ∷ ys) zero d y e there =
    let first : f a ≡ g b = cc in
    first ∙ ap g (same_Some b y there)
same_shown f g (a ∷ xs) (b ∷ ys) (suc i) d y e there =
    let rest : map f xs ≡ map g ys = cc in
    same_shown f g xs ys i d y rest there

pub there : {A : Type 0} (xs : List A) (i : ℕ) (x : A) → true ≡ nat_lt i (length xs) → x ≡ get_or xs i x → slice_get xs i ≡ Some x
there xs i x within same = slice_get_read xs (length xs) i x refl (ltb-true i (length xs) (sym within)) same

pub not_there : {A : Type 0} (xs : List A) (i : ℕ) → false ≡ nat_lt i (length xs) → slice_get xs i ≡ None
not_there xs i past = slice_get_past xs i (ltb-false i (length xs) (sym past))

-- one place more

pub one_more_place : {A B : Type 0} (view : A → B) (f : ℕ → B) (xs new : List A) (i : ℕ) (x : A)
    → new ≡ xs ++ x ∷ [] → view x ≡ f i → map view xs ≡ map f (range_with_len 0 i) → map view new ≡ map f (range_with_len 0 (i + 1))
one_more_place view f xs new i x more is before =
    ap (map view) more ∙ map-append view xs (x ∷ []) ∙ ap (λ l. l ++ view x ∷ []) before
    ∙ ap (λ y. map f (range_with_len 0 i) ++ y ∷ []) is
    ∙ sym (map-range_with_len_more f 0 i i (zero-add i))

map_id : {A : Type 0} (xs : List A) → map (λ x. x) xs ≡ xs
map_id [] = refl
map_id (x ∷ xs) = ap (λ ys. x ∷ ys) (map_id xs)

pub all_more_places : (p : ℕ → Bool) (i : ℕ) (a b : Bool) → a ≡ list_all p (range_with_len 0 i) → b ≡ p i
    → (a && b) ≡ list_all p (range_with_len 0 (i + 1))
all_more_places p i a b before is =
    let more : range_with_len 0 (i + 1) ≡ range_with_len 0 i ++ i ∷ [] =
    sym (map_id (range_with_len 0 (i + 1))) ∙ map-range_with_len_more (λ x. x) 0 i i (zero-add i) ∙ ap (λ l. l ++ i ∷ []) (map_id (range_with_len 0 i)) in
    ap (λ x. x && b) before ∙ ap (λ x. list_all p (range_with_len 0 i) && x) (is ∙ last (p i))
    ∙ sym (list_all-append p (range_with_len 0 i) (i ∷ [])) ∙ ap (list_all p) (sym more)
  where
    last : (c : Bool) → c ≡ (c && true)
    last true = refl
    last false = refl
