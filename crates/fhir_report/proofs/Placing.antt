-- What stands under a name, where its place is known.
use Rattle.std.proofs.Common.{◌≡◌, ℕ, suc, ◌+◌, Bool, cond, true, false, List, [], ◌∷◌, map, Option, None, Some, refl, ap, sym, ◌∙◌, arith}
use Rattle.std.specs.List.{position_from, slice_get}
use Rattle.std.specs.Map.{lookup, keys_of}
use Rattle.std.specs.Option.{option_map, option_and_then}
use Rattle.std.specs.Str.{bytes_eq}
use Rattle.fhir_json.specs.Tree.{Text}

shift_step : (b : Bool) (i : ℕ) (r q : Option ℕ) → r ≡ option_map suc q → cond b (Some (i + 1)) r ≡ option_map suc (cond b (Some i) q)
shift_step true i r q e = ap Some (omega arith)
shift_step false i r q e = e

shifted : (p : Text → Bool) (i : ℕ) (xs : List Text) → position_from p (i + 1) xs ≡ option_map suc (position_from p i xs)
shifted p i [] = refl
shifted p i (x ∷ xs) = shift_step (p x) i (position_from p (i + 1 + 1) xs) (position_from p (i + 1) xs) (shifted p (i + 1) xs)

module _ {A : Type 0} where
  abbrev pub value_at : List (Text × A) → ℕ → Option A
  value_at es k = option_map (λ e. e.1) (slice_get es k)

  at_next : (e : Text × A) (es : List (Text × A)) (o : Option ℕ) → option_and_then (value_at es) o ≡ option_and_then (value_at (e ∷ es)) (option_map suc o)
  at_next e es None = refl
  at_next e es (Some k) = refl

  find_step : (b : Bool) (e : Text × A) (es : List (Text × A)) (o : Option ℕ) (there : Option A)
      → there ≡ option_and_then (value_at es) o → cond b (Some e.1) there ≡ option_and_then (value_at (e ∷ es)) (cond b (Some 0) (option_map suc o))
  find_step true e es o there h = refl
  find_step false e es o there h = h ∙ at_next e es o

  -- what is under a name stands where the name first stands
  pub lookup-at : (es : List (Text × A)) (name : Text) → lookup (bytes_eq name) es ≡ option_and_then (value_at es) (position_from (bytes_eq name) 0 (keys_of es))
  lookup-at [] name = refl
  lookup-at (e ∷ es) name =
      find_step (bytes_eq name e.0) e es (position_from (bytes_eq name) 0 (keys_of es)) (lookup (bytes_eq name) es) (lookup-at es name)
      ∙ ap (λ (o : Option ℕ). option_and_then (value_at (e ∷ es)) (cond (bytes_eq name e.0) (Some 0) o)) (sym (shifted (bytes_eq name) 0 (keys_of es)))
