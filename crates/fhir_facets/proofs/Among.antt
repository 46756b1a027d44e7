-- An unread rule of a part is one of the whole.
use Rattle.std.proofs.Common.{◌≡◌, ℕ, zero, suc, ◌+◌, ◌<◌, Bool, true, false, ◌||◌, List, [], ◌∷◌, ◌++◌, length, get_or, drop, map, refl, sym, ap, ◌∙◌, subst, add-one, drop-cons, arith}
use Rattle.std.specs.List.{Contains, flat_map, list_any}
use Rattle.std.proofs.lemmas.List.Elements.{Contains-append_left, Contains-append_right}
use Rattle.fhir_facets.specs.declared.holding.Holding.{Holding}
use Rattle.fhir_facets.specs.declared.holding.Holding.TheVariants.{Holds, Fails, Given as AsGiven, Unread as Undecided}
use Rattle.fhir_facets.specs.Unread.{Unread}
use Rattle.fhir_facets.specs.Views.{unread_seen, IsCarried}

module _ {X Y B : Type 0} (f : Y → List B) (v : X → Y) (b : B) where
  among_all : (xs : List X) (k : ℕ) (x : X) → k < length xs → get_or xs k x ≡ x → Contains (f (v x)) b → Contains (flat_map f (map v xs)) b
  among_all [] k x lt is h = absurd (omega arith)
  among_all (y ∷ xs) zero x lt is h =
      Contains-append_left (f (v y)) (flat_map f (map v xs)) b (subst (λ (z : X). Contains (f (v z)) b) (sym is) h)
  among_all (y ∷ xs) (suc k) x lt is h =
      Contains-append_right (f (v y)) (flat_map f (map v xs)) b (among_all xs k x (omega arith) is h)

pub carried_among : {X Y : Type 0} (f : Y → List Unread) (v : X → Y) (h : Holding) (xs : List X) (k : ℕ) (x : X) → k < length xs
    → get_or xs k x ≡ x → IsCarried (f (v x)) h → IsCarried (flat_map f (map v xs)) h
carried_among f v Holds xs k x lt is c = c
carried_among f v Fails xs k x lt is c = c
carried_among f v (AsGiven u) xs k x lt is c = among_all f v (unread_seen u) xs k x lt is c
carried_among f v (Undecided u) xs k x lt is c = among_all f v (unread_seen u) xs k x lt is c

pub carried_first : (us vs : List Unread) (h : Holding) → IsCarried us h → IsCarried (us ++ vs) h
carried_first us vs Holds c = c
carried_first us vs Fails c = c
carried_first us vs (AsGiven u) c = Contains-append_left us vs (unread_seen u) c
carried_first us vs (Undecided u) c = Contains-append_left us vs (unread_seen u) c

pub carried_second : (us vs : List Unread) (h : Holding) → IsCarried vs h → IsCarried (us ++ vs) h
carried_second us vs Holds c = c
carried_second us vs Fails c = c
carried_second us vs (AsGiven u) c = Contains-append_right us vs (unread_seen u) c
carried_second us vs (Undecided u) c = Contains-append_right us vs (unread_seen u) c

-- ---- one more of several is looked at

or_regroup : (a b c : Bool) → ((a || b) || c) ≡ (a || (b || c))
or_regroup true b c = refl
or_regroup false b c = refl

pub any_step : {X Y : Type 0} (p : Y → Bool) (v : X → Y) (xs : List X) (i : ℕ) (x : X) (found new held whole : Bool)
    → i < length xs → x ≡ get_or xs i x → new ≡ (found || held) → held ≡ p (v x) → (found || list_any p (map v (drop i xs))) ≡ whole
    → (new || list_any p (map v (drop (i + 1) xs))) ≡ whole
any_step {X} p v xs i x found new held whole lt is now there so_far =
    let rest : Bool = list_any p (map v (drop (i + 1) xs)) in
    let cut : drop i xs ≡ x ∷ drop (i + 1) xs =
    drop-cons xs i x lt ∙ ap (λ (y : X). y ∷ drop (suc i) xs) (sym is) ∙ sym (ap (λ (n : ℕ). x ∷ drop n xs) (add-one i)) in
    ap (λ (b : Bool). b || rest) (now ∙ ap (λ (b : Bool). found || b) there)
    ∙ or_regroup found (p (v x)) rest
    ∙ sym (ap (λ (ys : List X). found || list_any p (map v ys)) cut)
    ∙ so_far
