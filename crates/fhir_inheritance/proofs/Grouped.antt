-- Texts under names, as the lists are kept.
use Rattle.std.proofs.Common.{◌≡◌, Bool, cond, true, false, List, [], ◌∷◌, ◌++◌, map, Option, None, Some, refl, ap, sym, ◌∙◌}
use Rattle.std.specs.Option.{option_map, option_map_or}
use Rattle.std.specs.Map.{lookup}
use Rattle.std.specs.Str.{bytes_eq}
use Rattle.std.proofs.lemmas.Slice.Eq.{bytes_eq-Decides}
use Rattle.fhir_json.specs.Tree.{Text}
use Rattle.fhir_inheritance.specs.Named.{Gets, Groups, texts_under, Adds}

module _ {A B : Type 0} where
  seen_step : (f : A → B) (b : Bool) (x : A) (o : Option A) → cond b (Some (f x)) (option_map f o) ≡ option_map f (cond b (Some x) o)
  seen_step f true x o = refl
  seen_step f false x o = refl

  -- what is looked up among things that are seen is what is seen of the thing
  pub lookup-seen : (f : A → B) (name : Text) (es : List (Text × A))
      → lookup (bytes_eq name) (map (λ e. (e.0, f e.1)) es) ≡ option_map f (lookup (bytes_eq name) es)
  lookup-seen f name [] = refl
  lookup-seen f name (e ∷ es) =
      ap (λ (r : Option B). cond (bytes_eq name e.0) (Some (f e.1)) r) (lookup-seen f name es)
      ∙ seen_step f (bytes_eq name e.0) e.1 (lookup (bytes_eq name) es)

module _ {A : Type 0} where
  seen : (f : A → List Text) → List (Text × A) → Groups
  seen f es = map (λ e. (e.0, f e.1)) es

  seen_texts : (f : A → List Text) (o : Option A) → option_map_or (λ (t : List Text). t) (option_map f o) [] ≡ option_map_or f o []
  seen_texts f None = refl
  seen_texts f (Some x) = refl

  pub under-seen : (f : A → List Text) (es : List (Text × A)) (name : Text) (o : Option A) → lookup (bytes_eq name) es ≡ o
      → texts_under (map (λ e. (e.0, f e.1)) es) name ≡ option_map_or f o []
  under-seen f es name o e =
      ap (λ (r : Option (List Text)). option_map_or (λ (t : List Text). t) r []) (lookup-seen f name es ∙ ap (option_map f) e)
      ∙ seen_texts f o

  -- one more text under a name whose texts were taken out
  at_name : (f : A → List Text) (b : Bool) (name other text : Text) (t : A) (old before new : Option A) (list : Text → List Text)
      → bytes_eq other name ≡ b → new ≡ cond b (Some t) before → before ≡ cond b None old
      → f t ≡ list name ++ text ∷ [] → list other ≡ option_map_or f old []
      → option_map_or f new [] ≡ cond b (list other ++ text ∷ []) (list other)
  at_name f true name other text t old before new list e n m h l =
      ap (λ (o : Option A). option_map_or f o []) n ∙ h ∙ ap (λ (x : Text). list x ++ text ∷ []) (sym ((bytes_eq-Decides other name).0 e))
  at_name f false name other text t old before new list e n m h l =
      ap (λ (o : Option A). option_map_or f o []) (n ∙ m) ∙ sym l

  pub adds : (f : A → List Text) (old before new : List (Text × A)) (name same text : Text) (t : A) → same ≡ name
      → Gets old before name None → Gets before new same (Some t)
      → f t ≡ option_map_or f (lookup (bytes_eq name) old) [] ++ text ∷ []
      → Adds (map (λ e. (e.0, f e.1)) old) (map (λ e. (e.0, f e.1)) new) name text
  adds f old before new name same text t is gone put h = λ other.
      let list : Text → List Text = λ x. texts_under (map (λ e. (e.0, f e.1)) old) x in
      let found : (x : Text) → list x ≡ option_map_or f (lookup (bytes_eq x) old) [] = λ x. under-seen f old x (lookup (bytes_eq x) old) refl in
      let put_name : lookup (bytes_eq other) new ≡ cond (bytes_eq other name) (Some t) (lookup (bytes_eq other) before) =
      put other ∙ ap (λ (n : Text). cond (bytes_eq other n) (Some t) (lookup (bytes_eq other) before)) is in
      under-seen f new other (lookup (bytes_eq other) new) refl
      ∙ at_name f (bytes_eq other name) name other text t (lookup (bytes_eq other) old) (lookup (bytes_eq other) before) (lookup (bytes_eq other) new) list
      refl put_name (gone other) (h ∙ ap (λ (ts : List Text). ts ++ text ∷ []) (sym (found name))) (found other)
