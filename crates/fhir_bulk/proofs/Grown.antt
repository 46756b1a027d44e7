-- What an output grows by.
use Rattle.std.proofs.Common.{◌≡◌, ◌<◌, ◌+◌, ℕ, suc, List, [], ◌++◌, length, map, flat_map, drop, drop-cons, get_or, arith, None, Some, Option, sym, ap, subst, ◌∙◌, append_assoc, append-nil}
use Rattle.std.specs.Io.KnownBytes.{Appends}

pub grown : (a b c : Option (List ℕ)) (xs ys : List ℕ) → Appends a b xs → Appends b c ys → Appends a c (xs ++ ys)
grown None b c xs ys p q = tt
grown (Some ks) None c xs ys p q = absurd p
grown (Some ks) (Some bs) None xs ys p q = absurd q
grown (Some ks) (Some bs) (Some cs) xs ys p q = q ∙ ap (λ l. l ++ ys) p ∙ append_assoc ks xs ys

pub not_grown : (known : Option (List ℕ)) → Appends known known []
not_grown None = tt
not_grown (Some bytes) = sym (append-nil bytes)

-- a text that grows by what an element of a list gives, in turn
pub next : {X Y : Type 0} (f : X → Y) (F : Y → List ℕ) (front target : List ℕ) (xs : List X) (i : ℕ) (d : X) → i < length xs
    → front ++ flat_map F (map f (drop i xs)) ≡ target → (front ++ F (f (get_or xs i d))) ++ flat_map F (map f (drop (i + 1) xs)) ≡ target
next f F front target xs i d less so =
    let later : suc i ≡ i + 1 = omega arith in
    let one = F (f (get_or xs i d)) in
    subst (λ k. (front ++ one) ++ flat_map F (map f (drop k xs)) ≡ target) later
    (append_assoc front one (flat_map F (map f (drop (suc i) xs)))
    ∙ ap (λ l. front ++ flat_map F (map f l)) (sym (drop-cons xs i d less))
    ∙ so)
