-- Where no profile stands that is compared, nothing is put in.
use Rattle.std.proofs.Common.{◌≡◌, ℕ, Bool, true, false, List, [], ◌++◌, Option, None, Some, if◌then◌else◌, refl, ap, sym, ◌∙◌}
use Rattle.std.specs.Option.{option_map_or, option_and_then}
use Rattle.fhir_json.specs.Tree.{Text, Tree}
use Rattle.fhir_package.specs.Definitions.{Definitions}
use Rattle.fhir_alike.proofs.Rests.{append_nothing}
use Rattle.fhir_beside.specs.Standing.{is_compared, standing, compared_of}

module _ {A : Type 0} (old new : Definitions) (place : ℕ) (one : Text × Tree → List A)
    (none : (e : Text × Tree) → is_compared old new place e ≡ false → one e ≡ []) where
  gives_none : (o : Option (Text × Tree)) → None ≡ option_and_then (compared_of old new place) o → option_map_or one o [] ≡ []
  gives_none None h = refl
  gives_none (Some e) h = go (is_compared old new place e) refl h
    where
      go : (b : Bool) → is_compared old new place e ≡ b → None ≡ (if b then Some (standing place e) else None) → one e ≡ []
      go true f g = cc
      go false f g = none e f

  pub nothing_more : (o : Option (Text × Tree)) (xs : List A) → None ≡ option_and_then (compared_of old new place) o
      → xs ≡ xs ++ option_map_or one o []
  nothing_more o xs h = sym (append_nothing xs) ∙ ap (λ ys. xs ++ ys) (sym (gives_none o h))
