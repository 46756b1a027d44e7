-- What it is that an element stands under another, in words that don't speak of lists of places.
use Rattle.std.specs.Prelude.{◌≡◌, ◌<◌, ◌↔◌, ℕ, List, [], length, get_or, Option, Some}
use Rattle.std.specs.List.{slice_get, Contains}
use Rattle.fhir_elements.specs.Element.{Element}

-- the element at that place stands under the one at the other, by what an element says of its own
abbrev pub StandsUnder : (Element → Option ℕ) → List Element → ℕ → ℕ → Type 0
StandsUnder place_over es place over = (e : Element) × (slice_get es place ≡ Some e) × (place_over e ≡ Some over)

-- the lists have for each element the places of those that stand under it, and no others
abbrev pub AreUnderEach : (Element → Option ℕ) → List Element → List (List ℕ) → Type 0
AreUnderEach place_over es lists =
    (over place : ℕ) → over < length es → Contains (get_or lists over []) place ↔ StandsUnder place_over es place over
