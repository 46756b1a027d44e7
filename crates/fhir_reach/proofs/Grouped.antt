-- Places under codes, as the lists are kept.
use Rattle.std.proofs.Common.{◌≡◌, ℕ, Bool, cond, true, false, List, [], ◌∷◌, ◌++◌, map, Option, None, Some, refl, ap, sym, ◌∙◌}
use Rattle.std.specs.Option.{option_map, option_map_or}
use Rattle.std.specs.Map.{lookup}
use Rattle.std.specs.Str.{bytes_eq}
use Rattle.std.proofs.lemmas.Slice.Eq.{bytes_eq-Decides}
use Rattle.fhir_json.specs.Tree.{Text}
use Rattle.fhir_inheritance.specs.Named.{Gets}
use Rattle.fhir_inheritance.proofs.Grouped.{lookup-seen}
use Rattle.fhir_reach.specs.Places.{places_under, AddsPlace}

module _ {A : Type 0} (f : A → List ℕ) where
  seen_places : (o : Option A) → option_map_or (λ (ns : List ℕ). ns) (option_map f o) [] ≡ option_map_or f o []
  seen_places None = refl
  seen_places (Some x) = refl

  pub under_seen : (es : List (Text × A)) (code : Text) (o : Option A) → lookup (bytes_eq code) es ≡ o
      → places_under (map (λ e. (e.0, f e.1)) es) code ≡ option_map_or f o []
  under_seen es code o e =
      ap (λ (r : Option (List ℕ)). option_map_or (λ (ns : List ℕ). ns) r []) (lookup-seen f code es ∙ ap (option_map f) e)
      ∙ seen_places o

  -- one more place under a code whose places were taken out
  at_code : (b : Bool) (code other : Text) (place : ℕ) (t : A) (old before new : Option A) (list : Text → List ℕ)
      → bytes_eq other code ≡ b → new ≡ cond b (Some t) before → before ≡ cond b None old
      → f t ≡ list code ++ place ∷ [] → list other ≡ option_map_or f old []
      → option_map_or f new [] ≡ cond b (list other ++ place ∷ []) (list other)
  at_code true code other place t old before new list e n m h l =
      ap (λ (o : Option A). option_map_or f o []) n ∙ h ∙ ap (λ (x : Text). list x ++ place ∷ []) (sym ((bytes_eq-Decides other code).0 e))
  at_code false code other place t old before new list e n m h l =
      ap (λ (o : Option A). option_map_or f o []) (n ∙ m) ∙ sym l

  pub adds_place : (old before new : List (Text × A)) (code same : Text) (place : ℕ) (t : A) → same ≡ code
      → Gets old before code None → Gets before new same (Some t)
      → f t ≡ option_map_or f (lookup (bytes_eq code) old) [] ++ place ∷ []
      → AddsPlace (map (λ e. (e.0, f e.1)) old) (map (λ e. (e.0, f e.1)) new) code place
  adds_place old before new code same place t is gone put h = λ other.
      let list : Text → List ℕ = λ x. places_under (map (λ e. (e.0, f e.1)) old) x in
      let found : (x : Text) → list x ≡ option_map_or f (lookup (bytes_eq x) old) [] = λ x. under_seen old x (lookup (bytes_eq x) old) refl in
      let put_code : lookup (bytes_eq other) new ≡ cond (bytes_eq other code) (Some t) (lookup (bytes_eq other) before) =
      put other ∙ ap (λ (n : Text). cond (bytes_eq other n) (Some t) (lookup (bytes_eq other) before)) is in
      under_seen new other (lookup (bytes_eq other) new) refl
      ∙ at_code (bytes_eq other code) code other place t (lookup (bytes_eq other) old) (lookup (bytes_eq other) before) (lookup (bytes_eq other) new) list
      refl put_code (gone other) (h ∙ ap (λ (ns : List ℕ). ns ++ place ∷ []) (sym (found code))) (found other)
