-- The definitions of a schema are those of its package.
use Rattle.std.proofs.Common.{◌≡◌, ℕ, zero, suc, ◌+◌, [], ◌∷◌, Some, option_map, refl, ap, ◌∙◌, arith}
use Rattle.std.specs.List.{slice_get}
use Rattle.fhir_package.specs.Definitions.{ByUrl}
use Rattle.fhir_definition.specs.Definition.{definition_of, definitions_from}

pub definition_from : (n : ℕ) (es : ByUrl) (k : ℕ)
    → slice_get (definitions_from n es) k ≡ option_map (λ e. definition_of (n + k) e.0 e.1) (slice_get es k)
definition_from n [] k = refl
definition_from n (e ∷ es) zero = let here : n ≡ n + 0 = omega arith in ap (λ m. Some (definition_of m e.0 e.1)) here
definition_from n (e ∷ es) (suc k) =
    let next : suc n + k ≡ n + suc k = omega arith in
    definition_from (suc n) es k ∙ ap (λ m. option_map (λ f. definition_of m f.0 f.1) (slice_get es k)) next

pub definition_there : (es : ByUrl) (k : ℕ) → slice_get (definitions_from 0 es) k ≡ option_map (λ e. definition_of k e.0 e.1) (slice_get es k)
definition_there es k =
    let same : 0 + k ≡ k = omega arith in
    definition_from 0 es k ∙ ap (λ m. option_map (λ e. definition_of m e.0 e.1) (slice_get es k)) same
