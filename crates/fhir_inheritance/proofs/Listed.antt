-- Lists of texts and their places.
use Rattle.std.proofs.Common.{◌≡◌, ℕ, suc, ◌+◌, Bool, cond, true, false, ◌||◌, List, [], ◌∷◌, ◌++◌, map, filter, Option, Some, is_some, refl, ap, sym, ◌∙◌, arith, String, string_bytes}
use Rattle.std.specs.List.{list_any, position_from}
use Rattle.std.specs.Option.{option_map}
use Rattle.std.specs.Str.{bytes_eq}
use Rattle.std.proofs.lemmas.Bool.{cond-true, cond-false}
use Rattle.std.proofs.lemmas.List.{map-append}
use Rattle.fhir_json.specs.Tree.{Text}
use Rattle.fhir_names.specs.Places.{Places, place_of, Finds}
use Rattle.fhir_inheritance.specs.Lists.{is_among, with_text}

any_step : (b q : Bool) (i : ℕ) (r : Option ℕ) → is_some r ≡ q → is_some (cond b (Some i) r) ≡ (b || q)
any_step true q i r e = refl
any_step false q i r e = e

any-position : {X : Type 0} (p : X → Bool) (i : ℕ) (xs : List X) → is_some (position_from p i xs) ≡ list_any p xs
any-position p i [] = refl
any-position p i (x ∷ xs) = any_step (p x) (list_any p xs) i (position_from p (i + 1) xs) (any-position p (i + 1) xs)

pub placed : (places : Places) (names : List Text) → Finds places names → (text : Text) → is_some (place_of places text) ≡ is_among names text
placed places names h text = ap is_some (h text) ∙ any-position (bytes_eq text) 0 names

pub among : (places : Places) (names : List Text) (text : Text) (b : Bool) → Finds places names → is_some (place_of places text) ≡ b → is_among names text ≡ b
among places names text b h e = sym (placed places names h text) ∙ e

pub with-there : (texts : List Text) (text : Text) → is_among texts text ≡ true → with_text texts text ≡ texts
with-there texts text e = cond-true _ _ _ e

pub with-new : (texts : List Text) (text : Text) → is_among texts text ≡ false → with_text texts text ≡ texts ++ text ∷ []
with-new texts text e = cond-false _ _ _ e

module _ {Z : Type 0} where
  pub seen_snoc : (ss : List (String Z)) (s : String Z) (ts : List (String Z)) → ts ≡ ss ++ s ∷ [] → map string_bytes ts ≡ map string_bytes ss ++ string_bytes s ∷ []
  seen_snoc ss s ts e = ap (map string_bytes) e ∙ map-append string_bytes ss (s ∷ [])

module _ {X : Type 0} where
  pub any-same : (p q : X → Bool) → ((x : X) → p x ≡ q x) → (xs : List X) → list_any p xs ≡ list_any q xs
  any-same p q h [] = refl
  any-same p q h (x ∷ xs) = ap (λ (b : Bool). b || list_any p xs) (h x) ∙ ap (λ (b : Bool). q x || b) (any-same p q h xs)

-- ---- what is found at a place

shift_step : (b : Bool) (i : ℕ) (r q : Option ℕ) → r ≡ option_map suc q → cond b (Some (i + 1)) r ≡ option_map suc (cond b (Some i) q)
shift_step true i r q e = ap Some (omega arith)
shift_step false i r q e = e

pub position-shift : {X : Type 0} (p : X → Bool) (i : ℕ) (xs : List X) → position_from p (i + 1) xs ≡ option_map suc (position_from p i xs)
position-shift p i [] = refl
position-shift p i (x ∷ xs) = shift_step (p x) i (position_from p (i + 1 + 1) xs) (position_from p (i + 1) xs) (position-shift p (i + 1) xs)

-- ---- what is picked of a list that is one longer

module _ {X Y : Type 0} where
  end_step : (f : X → Y) (b : Bool) (x : X) → map f (cond b (x ∷ []) []) ≡ cond b (f x ∷ []) []
  end_step f true x = refl
  end_step f false x = refl

  pick_step : (f : X → Y) (b : Bool) (x : X) (xs more : List X) (end : List Y) → map f more ≡ map f xs ++ end
      → map f (cond b (x ∷ more) more) ≡ map f (cond b (x ∷ xs) xs) ++ end
  pick_step f true x xs more end e = ap (λ (l : List Y). f x ∷ l) e
  pick_step f false x xs more end e = e

  pub picked-snoc : (f : X → Y) (p : X → Bool) (xs : List X) (x : X) → map f (filter p (xs ++ x ∷ [])) ≡ map f (filter p xs) ++ cond (p x) (f x ∷ []) []
  picked-snoc f p [] x = end_step f (p x) x
  picked-snoc f p (y ∷ xs) x = pick_step f (p y) y (filter p xs) (filter p (xs ++ x ∷ [])) (cond (p x) (f x ∷ []) []) (picked-snoc f p xs x)
