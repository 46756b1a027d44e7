-- One more of a list, and the members of an object.
use Rattle.std.proofs.Common.{◌≡◌, ◌+◌, ◌<◌, ℕ, List, [], ◌∷◌, ◌++◌, map, take, length, get_or, Option, refl, ap, ◌∙◌}
use Rattle.std.specs.Prelude.{filter_map}
use Rattle.std.proofs.lemmas.List.{map_more}
use Rattle.std.proofs.lemmas.List.Elements.{filter_map-append}
use Rattle.fhir_json.specs.Tree.{properties_of}
use Rattle.fhir_json.specs.Views.{members_view}
use Rattle.fhir_json.specs.declared.json.Member.{Member}
use Rattle.fhir_archives.specs.Archives.{dependency}
use Rattle.fhir_archives.specs.Views.{dependency_seen}

-- what is made of one more
pub filter_map_more : {X Y Z : Type 0} (h : Y → Option Z) (f : X → Y) (xs : List X) (i : ℕ) (d : X) → i < length xs
    → filter_map h (map f (take (i + 1) xs)) ≡ filter_map h (map f (take i xs)) ++ filter_map h (f (get_or xs i d) ∷ [])
filter_map_more h f xs i d l = ap (filter_map h) (map_more f xs i d l) ∙ filter_map-append h (map f (take i xs)) (f (get_or xs i d) ∷ [])

pub members_seen : (ms : List Member) → map dependency_seen ms ≡ map dependency (properties_of (members_view ms))
members_seen [] = refl
members_seen (m ∷ ms) = ap (λ ds. dependency_seen m ∷ ds) (members_seen ms)
