-- Positions that stand in a text.
use Rattle.std.proofs.Common.{◌≡◌, ℕ, List, [], ◌∷◌, ◌++◌, Option, Some, subst}
use Rattle.std.specs.Prelude.{All}
use Rattle.std.specs.Option.{IfSome}
use Rattle.std.proofs.lemmas.List.Elements.{All-push, All-same}
use Rattle.fhir_json.specs.declared.position.Position.{Position}
use Rattle.fhir_positions.specs.Positions.{StandsIn}

module _ (bytes : List ℕ) where
  pub one_more : (xs ys : List Position) (x : Position) → ys ≡ xs ++ x ∷ [] → All (StandsIn bytes) xs → StandsIn bytes x → All (StandsIn bytes) ys
  one_more xs ys x e all p = All-same (StandsIn bytes) ys (xs ++ x ∷ []) e (All-push (StandsIn bytes) xs x all p)

  pub one_there : (o : Option Position) (x : Position) → o ≡ Some x → IfSome o (StandsIn bytes) → StandsIn bytes x
  one_there o x e h = subst (λ (o : Option Position). IfSome o (StandsIn bytes)) e h
