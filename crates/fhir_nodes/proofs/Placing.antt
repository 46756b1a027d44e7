-- Each definition stands at its place.
use Rattle.std.proofs.Common.{◌≡◌, ℕ, zero, suc, ◌+◌, List, [], ◌∷◌, ap, sym, ◌∙◌, Some, arith}
use Rattle.std.specs.List.{slice_get}
use Rattle.fhir_json.specs.Tree.{Text, Tree}
use Rattle.fhir_definition.specs.Definition.{Definition, definition_of, definitions_from}

Placed : ℕ → List Definition → Type 0
Placed n ds = (i : ℕ) (d : Definition) → slice_get ds i ≡ Some d → d.place ≡ n + i

placed_from : (n : ℕ) (es : List (Text × Tree)) → Placed n (definitions_from n es)
unfolding Placed
placed_from n [] i d h = cc
placed_from n (e ∷ es) zero d h =
    let is : Some (definition_of n e.0 e.1) ≡ Some d = h in
    let same : definition_of n e.0 e.1 ≡ d = cc in
    sym (ap (λ x. x.place) same) ∙ omega arith
placed_from n (e ∷ es) (suc i) d h =
    let rest : d.place ≡ suc n + i = placed_from (suc n) es i d h in omega arith

pub placed : (es : List (Text × Tree)) (place : ℕ) (d : Definition) → slice_get (definitions_from 0 es) place ≡ Some d → d.place ≡ place
unfolding Placed
placed es place d h = placed_from 0 es place d h ∙ omega arith
