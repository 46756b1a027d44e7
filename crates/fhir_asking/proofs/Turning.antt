-- The names that wait for one another, as one is known or one more waits.
use Rattle.std.proofs.Common.{◌≡◌, ℕ, ◌+◌, ◌-◌, ◌^◌, ◌<◌, List, [], ◌∷◌, ◌++◌, length, take, get_or, Bool, true, false, cond, Option, inl, inr, refl, ap, sym, ◌∙◌, subst, arith}
use Rattle.std.proofs.lemmas.Bool.{cases_lt}
use Rattle.std.specs.Str.{bytes_eq}
use Rattle.std.specs.List.{list_any}
use Rattle.fhir_json.specs.Tree.{Text}
use Rattle.fhir_asking.specs.Asking.{Asking, found, is_wanting, answer, known, NeedsItself}
use Rattle.fhir_asking.specs.Settling.{Needs, IsChain, IsBottom, IsApart, AreUnknown, Learns, Waits, GoesOn, Turns, top_of}
use Rattle.fhir_asking.proofs.Chains.{circle}
use Rattle.fhir_asking.proofs.Lists.{get_front, get_last, length_snoc, place_in, any_front, any_end, any_last, differs, snoc_of}
use Rattle.fhir_asking.proofs.Tables.{known_there}

module _ {A : Type 0} where
  -- ---- the first of them

  bottom_pop : (x top : Text) (a : Option A) (old new : List (Text × Option A)) (ys : List Text) → IsBottom x old (ys ++ top ∷ []) → known new top ≡ found a → IsBottom x new ys
  bottom_pop x top a old new [] h e = ap (λ z. is_wanting (known new z)) (sym h) ∙ ap is_wanting e
  bottom_pop x top a old new (y ∷ ys) h e = h

  bottom_more : (x top next : Text) (old new : List (Text × Option A)) (ys : List Text) → IsBottom x old (ys ++ top ∷ []) → IsBottom x new ((ys ++ top ∷ []) ++ next ∷ [])
  bottom_more x top next old new [] h = h
  bottom_more x top next old new (y ∷ ys) h = h

  bottom_first : (x top : Text) (old : List (Text × Option A)) (ys : List Text) → IsBottom x old (ys ++ top ∷ []) → get_or (ys ++ top ∷ []) 0 [] ≡ x
  bottom_first x top old [] h = h
  bottom_first x top old (y ∷ ys) h = h

  -- ---- the chain

  chain_front : (asking : Text → Asking A) (ys : List Text) (top : Text) → IsChain asking (ys ++ top ∷ []) → IsChain asking ys
  chain_front asking ys top chain k h =
      let here : k < length ys = omega arith in
      let long : k + 1 < length (ys ++ top ∷ []) = omega (arith, length_snoc ys top) in
      let one : Needs asking (get_or (ys ++ top ∷ []) k []) (get_or (ys ++ top ∷ []) (k + 1) []) = chain k long in
      let two : Needs asking (get_or ys k []) (get_or (ys ++ top ∷ []) (k + 1) []) = subst (λ t. Needs asking t (get_or (ys ++ top ∷ []) (k + 1) [])) (get_front ys (top ∷ []) k here) one in
      subst (λ t. Needs asking (get_or ys k []) t) (get_front ys (top ∷ []) (k + 1) h) two

  chain_more_at : (asking : Text → Asking A) (xs : List Text) (next : Text) (k : ℕ) → k < length xs → (t : Text) → get_or (xs ++ next ∷ []) (k + 1) [] ≡ t → Needs asking (get_or xs k []) t → Needs asking (get_or (xs ++ next ∷ []) k []) (get_or (xs ++ next ∷ []) (k + 1) [])
  chain_more_at asking xs next k h t e n =
      let one : Needs asking (get_or (xs ++ next ∷ []) k []) t = subst (λ s. Needs asking s t) (sym (get_front xs (next ∷ []) k h)) n in
      subst (λ s. Needs asking (get_or (xs ++ next ∷ []) k []) s) (sym e) one

  chain_more : (asking : Text → Asking A) (ys : List Text) (top next : Text) → IsChain asking (ys ++ top ∷ []) → Needs asking top next → IsChain asking ((ys ++ top ∷ []) ++ next ∷ [])
  chain_more asking ys top next chain need k h =
      let xs = ys ++ top ∷ [] in
      let len : length xs ≡ length ys + 1 = length_snoc ys top in
      let more : k + 1 < length xs + 1 = omega (arith, length_snoc xs next) in
      let here : k < length xs = omega arith in
      elim (cases_lt (k + 1) (length xs)) as (λ s. Needs asking (get_or (xs ++ next ∷ []) k []) (get_or (xs ++ next ∷ []) (k + 1) [])) [
        | inl l ↦ chain_more_at asking xs next k here (get_or xs (k + 1) []) (get_front xs (next ∷ []) (k + 1) l) (chain k l)
        | inr g ↦
            let at : k + 1 ≡ length xs = omega arith in
            let last : k ≡ length ys = omega arith in
            let is : get_or xs k [] ≡ top = get_last ys top k last in
            chain_more_at asking xs next k here next (get_last xs next (k + 1) at) (subst (λ s. Needs asking s next) (sym is) need)
      ]

  -- a chain whose last one needs one of them: each needs itself
  needs_itself : (asking : Text → Asking A) (t : List (Text × Option A)) (ys : List Text) (top next : Text) → IsChain asking (ys ++ top ∷ []) → Needs asking top next → list_any (bytes_eq next) (ys ++ top ∷ []) ≡ true → (x : Text) → IsBottom x t (ys ++ top ∷ []) → NeedsItself asking x
  needs_itself asking t ys top next chain need in_it x bottom n =
      let xs = ys ++ top ∷ [] in
      let len : length xs ≡ length ys + 1 = length_snoc ys top in
      let place = place_in next xs in_it in
      let last : get_or xs (length xs - 1) [] ≡ top = get_last ys top (length xs - 1) (omega arith) in
      let one : Needs asking (get_or xs (length xs - 1) []) next = subst (λ s. Needs asking s next) (sym last) need in
      let two : Needs asking (get_or xs (length xs - 1) []) (get_or xs place.0 []) = subst (λ s. Needs asking (get_or xs (length xs - 1) []) s) (sym place.2) one in
      let first : 0 < length xs = omega arith in
      ap (λ z. is_wanting (answer asking n z)) (sym (bottom_first x top t ys bottom)) ∙ circle asking xs place.0 chain place.1 two n 0 first

  -- ---- what is unknown

  unknown_front : (old new : List (Text × Option A)) (xs : List Text) (top : Text) (a : Option A) → AreUnknown old (xs ++ top ∷ []) → IsApart top xs → Learns old new top a → AreUnknown new xs
  unknown_front old new xs top a unknown apart learns z e =
      ap is_wanting (learns z)
      ∙ ap (λ (b : Bool). is_wanting (cond b (found a) (known old z))) (differs z top xs e apart (bytes_eq z top) refl)
      ∙ unknown z (any_front z xs top e)

  unknown_at : (t : List (Text × Option A)) (xs : List Text) (next z : Text) → is_wanting (known t next) ≡ true → (list_any (bytes_eq z) xs ≡ true → is_wanting (known t z) ≡ true) → list_any (bytes_eq z) (xs ++ next ∷ []) ≡ true → (b : Bool) → list_any (bytes_eq z) xs ≡ b → is_wanting (known t z) ≡ true
  unknown_at t xs next z here before e true is = before is
  unknown_at t xs next z here before e false is = ap (λ n. is_wanting (known t n)) (any_last z xs next e is) ∙ here

  unknown_more : (t : List (Text × Option A)) (xs : List Text) (next : Text) → AreUnknown t xs → is_wanting (known t next) ≡ true → AreUnknown t (xs ++ next ∷ [])
  unknown_more t xs next unknown here z e = unknown_at t xs next z here (unknown z) e (list_any (bytes_eq z) xs) refl

  -- the last of them is unknown
  pub top_unknown : (asking : Text → Asking A) (t : List (Text × Option A)) (ws xs : List Text) (top : Text) → ws ≡ xs ++ top ∷ [] → Waits asking t ws → is_wanting (known t top) ≡ true
  top_unknown asking t ws xs top e waits = waits.unknown top (ap (list_any (bytes_eq top)) e ∙ any_end xs top)

  -- ---- turns

  known_at : (asking : Text → Asking A) (old new : List (Text × Option A)) (xs : List Text) (top : Text) (a : Option A) → Waits asking old (xs ++ top ∷ []) → IsApart top xs → Learns old new top a → length new ≡ length old + 1 → length old < 2 ^ 63 → Turns asking old (xs ++ top ∷ []) new xs true
  known_at asking old new xs top a waits apart learns longer room =
      let len : length (xs ++ top ∷ []) ≡ length xs + 1 = length_snoc xs top in
      record {
        waits = record { chain = chain_front asking xs top waits.chain; unknown = unknown_front old new xs top a waits.unknown apart learns };
        bottom = λ x b. bottom_pop x top a old new xs b (known_there old new top a learns);
        less = omega arith;
      }

  -- the last one is known now
  pub turn_known : (asking : Text → Asking A) (old new : List (Text × Option A)) (ws xs : List Text) (top : Text) (a : Option A) → ws ≡ xs ++ top ∷ [] → Waits asking old ws → IsApart top xs → Learns old new top a → length new ≡ length old + 1 → length old < 2 ^ 63 → Turns asking old ws new xs true
  turn_known asking old new ws xs top a e waits apart learns longer room =
      subst (λ l. Turns asking old l new xs true) (sym e) (known_at asking old new xs top a (subst (Waits asking old) e waits) apart learns longer room)

  waits_at : (asking : Text → Asking A) (t : List (Text × Option A)) (xs ys : List Text) (top next : Text) → Waits asking t (xs ++ top ∷ []) → Needs asking top next → is_wanting (known t next) ≡ true → ys ≡ (xs ++ top ∷ []) ++ next ∷ [] → length ys < 2 ^ 64 → Turns asking t (xs ++ top ∷ []) t ys true
  waits_at asking t xs ys top next waits need unknown e fits =
      let both : length ys ≡ length ((xs ++ top ∷ []) ++ next ∷ []) = ap length e in
      let len : length ((xs ++ top ∷ []) ++ next ∷ []) ≡ length (xs ++ top ∷ []) + 1 = length_snoc (xs ++ top ∷ []) next in
      record {
        waits = subst (Waits asking t) (sym e) (record { chain = chain_more asking xs top next waits.chain need; unknown = unknown_more t (xs ++ top ∷ []) next waits.unknown unknown });
        bottom = λ x b. subst (IsBottom x t) (sym e) (bottom_more x top next t t xs b);
        less = omega arith;
      }

  -- the last one waits for another
  pub turn_waits : (asking : Text → Asking A) (t : List (Text × Option A)) (ws ys : List Text) (next : Text) → 0 < length ws → Waits asking t ws → Needs asking (top_of ws) next → is_wanting (known t next) ≡ true → ys ≡ ws ++ next ∷ [] → length ys < 2 ^ 64 → Turns asking t ws t ys true
  turn_waits asking t ws ys next some waits need unknown e fits =
      let xs = take (length ws - 1) ws in
      let is : ws ≡ xs ++ top_of ws ∷ [] = snoc_of ws some in
      subst (λ l. Turns asking t l t ys true) (sym is)
      (waits_at asking t xs ys (top_of ws) next (subst (Waits asking t) is waits) need unknown (e ∙ ap (λ l. l ++ next ∷ []) is) fits)

  -- the last one waits for one that waits
  pub turn_stuck : (asking : Text → Asking A) (t : List (Text × Option A)) (ws : List Text) (next : Text) → 0 < length ws → Waits asking t ws → Needs asking (top_of ws) next → list_any (bytes_eq next) ws ≡ true → Turns asking t ws t ws false
  turn_stuck asking t ws next some waits need in_it =
      let xs = take (length ws - 1) ws in
      let is : ws ≡ xs ++ top_of ws ∷ [] = snoc_of ws some in
      subst (λ l. Turns asking t l t ws false) (sym is)
      (needs_itself asking t xs (top_of ws) next (subst (IsChain asking) is waits.chain) need (ap (list_any (bytes_eq next)) (sym is) ∙ in_it))

  -- a loop over turns goes on as it began
  pub waits_on : (asking : Text → Asking A) (old new : List (Text × Option A)) (ws ys : List Text) (more : Bool) → more ≡ true → Turns asking old ws new ys more → GoesOn asking old ws new ys
  waits_on asking old new ws ys more is turns = subst (λ b. Turns asking old ws new ys b) is turns
