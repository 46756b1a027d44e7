-- The first content of a list of elements that doesn't stay.
use Rattle.std.proofs.Common.{◌≡◌, Bool, true, false, cond, not, List, ◌∷◌, Option, None, Some, refl, if◌then◌else◌}
use Rattle.std.specs.Option.{option_and_then}
use Rattle.std.specs.List.{find, filter_map, cons_option}
use Rattle.fhir_json.specs.Tree.{Text}
use Rattle.fhir_package.specs.Definitions.{Definitions}
use Rattle.fhir_elements.specs.Element.{Element}
use Rattle.fhir_alike.specs.Naming.{content_stays, lost_reference}
use Rattle.fhir_compare.specs.Losing.{first_some}

abbrev pub lost_in : (old new : Definitions) → List Element → Option Text
lost_in old new es = find (λ reference. not (content_stays old new reference)) (filter_map (λ e. e.content_reference) es)

find_cons : (stays : Text → Bool) (o : Option Text) (rest : List Text)
    → find (λ reference. not (stays reference)) (cons_option o rest)
    ≡ first_some (option_and_then (λ reference. if stays reference then None else Some reference) o) (find (λ reference. not (stays reference)) rest)
find_cons stays None rest = refl
find_cons stays (Some r) rest = go (stays r)
  where
    go : (b : Bool)
        → cond (not b) (Some r) (find (λ reference. not (stays reference)) rest)
        ≡ first_some (if b then None else Some r) (find (λ reference. not (stays reference)) rest)
    go true = refl
    go false = refl

-- that of the first element, or else of those behind it
pub lost_cons : (old new : Definitions) (e : Element) (es : List Element)
    → lost_in old new (e ∷ es) ≡ first_some (lost_reference old new e) (lost_in old new es)
lost_cons old new e es = find_cons (content_stays old new) e.content_reference (filter_map (λ d. d.content_reference) es)
