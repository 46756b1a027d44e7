-- Words that the contracts of private functions alone cite: what they answer of elements in order.
use Rattle.std.specs.Prelude.{◌≡◌, List, [], ◌∷◌, ◌++◌, reverse, Bool, true, false, Option, Some}
use Rattle.std.specs.Option.{option_map_or}
use Rattle.fhir_json.specs.Tree.{Text}
use Rattle.fhir_elements.specs.Element.{Element}
use Rattle.fhir_package.specs.Definitions.{Definitions}
use Rattle.fhir_asking.specs.Asking.{Has, known, found}
use Rattle.fhir_overlay.specs.Overlay.{bounds_fit}
use Rattle.fhir_inheritance.specs.Node.{Node}
use Rattle.fhir_inheritance.specs.Inheriting.{asking}
use Rattle.fhir_snapshot.specs.Order.{IsAt, under}

abbrev pub node_fits : Option Node → Bool
node_fits node = option_map_or (λ n. bounds_fit n.element) node false

-- an element with bounds that fit is there, and known; or there is none
abbrev pub IsFine : Definitions → Text → List (Text × Option Node) → Bool → Type 0
IsFine p name table true = (n : Node) × (known table name ≡ found (Some n)) × (bounds_fit n.element ≡ true)
IsFine p name table false = (n : Node) → Has (asking p) name (Some n) → bounds_fit n.element ≡ true → ⊥

-- the element of an id is listed, and what stands under it is left before the others, the last one first; or it isn't fine
abbrev pub Places : Definitions → Text → Text → List Element → List Element → List Text → List Text → Bool → Type 0
Places p url id listed more left rest true =
    (n : Node) × IsAt p url id n × (bounds_fit n.element ≡ true) × (more ≡ listed ++ n.element ∷ []) × (reverse rest ≡ under id n ++ reverse left)
Places p url id listed more left rest false = (n : Node) → IsAt p url id n → bounds_fit n.element ≡ true → ⊥

-- whether something is so
abbrev pub Decides : Bool → Type 0 → Type 0
Decides true P = P
Decides false P = P → ⊥
