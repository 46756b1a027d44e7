-- One definition more, of which the slots are worked out.
use Rattle.std.proofs.Common.{◌≡◌, ℕ, ◌<◌, ◌+◌, List, [], ◌∷◌, ◌++◌, map, length, take, get_or, ap, sym, ◌∙◌}
use Rattle.std.proofs.lemmas.List.{take_more, map-append}

pub one_more : {A B D : Type 0} (view : A → B) (of : D → B) (xs new : List A) (ds : List D) (i : ℕ) (x : A) (d : D)
    → i < length ds → d ≡ get_or ds i d → new ≡ xs ++ x ∷ [] → view x ≡ of d → map view xs ≡ map of (take i ds)
    → map view new ≡ map of (take (i + 1) ds)
one_more view of xs new ds i x d h is more same before =
    ap (map view) more ∙ map-append view xs (x ∷ []) ∙ ap (λ l. l ++ view x ∷ []) before
    ∙ ap (λ y. map of (take i ds) ++ y ∷ []) (same ∙ ap of is)
    ∙ sym (map-append of (take i ds) (get_or ds i d ∷ []))
    ∙ ap (map of) (sym (take_more ds i d h))
