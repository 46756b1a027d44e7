-- Whether the type of a node's definition is of resources.
use Rattle.std.proofs.Common.{◌≡◌, ℕ, List, [], Bool, Option, None, Some, map, refl, sym, ap, ◌∙◌, unwrap_or}
use Rattle.std.specs.Option.{option_map, option_map_or}
use Rattle.std.specs.List.{slice_get}
use Rattle.std.proofs.lemmas.Option.{slice_get-map}
use Rattle.fhir_definition.specs.Definition.{Definition}
use Rattle.fhir_nodes.specs.Types.{names_resource}
use Rattle.fhir_summaries.specs.ResourceTypes.{of_resources}

pub of_resource_at : (ds : List Definition) (place : ℕ) → unwrap_or (slice_get (of_resources ds) place) (names_resource ds [])
    ≡ names_resource ds (option_map_or (λ d. d.type) (slice_get ds place) [])
of_resource_at ds place =
    ap (λ (o : Option Bool). unwrap_or o (names_resource ds [])) (slice_get-map (λ (d : Definition). names_resource ds d.type) ds place) ∙ by (slice_get ds place)
  where
    by : (o : Option Definition) → unwrap_or (option_map (λ (d : Definition). names_resource ds d.type) o) (names_resource ds []) ≡ names_resource ds (option_map_or (λ d. d.type) o [])
    by None = refl
    by (Some d) = refl
