-- Chains of bases (used by private contracts alone).
use Rattle.std.specs.Prelude.{◌≡◌, List, [], ◌∷◌, Bool, true, false, Option, None, Some, if◌then◌else◌}
use Rattle.std.specs.Option.{option_map_or}
use Rattle.fhir_json.specs.Tree.{Text}
use Rattle.fhir_elements.specs.Element.{Element}
use Rattle.fhir_package.specs.Definitions.{Definitions}
use Rattle.fhir_asking.specs.Asking.{Asking, given, asks}
use Rattle.fhir_inheritance.specs.Sources.{Source, source_at}
use Rattle.fhir_snapshot.specs.Snapshots.{IsSnapshot}

-- whether a chain ends at a snapshot that is brought: that of a definition's base does, if the definition brings none
abbrev pub asks_base : Option Text → Asking Bool
asks_base None = given None
asks_base (Some base) = asks base (λ ends. given ends)

abbrev pub chain_of : Source → Asking Bool
chain_of source = if source.written then given (Some true) else asks_base source.base

abbrev pub ending : Definitions → Text → Asking Bool
ending p url = option_map_or chain_of (source_at p url) (given None)

-- the first definition brings no snapshot and rests on the second
abbrev pub Rests : Definitions → Text → Text → Type 0
Rests p url base = (source : Source) × (source_at p url ≡ Some source) × (source.written ≡ false) × (source.base ≡ Some base)

-- a definition brings a snapshot
abbrev pub IsWritten : Definitions → Text → Type 0
IsWritten p url = (source : Source) × (source_at p url ≡ Some source) × (source.written ≡ true)

-- each definition rests on the next
abbrev pub IsChain : Definitions → List Text → Type 0
IsChain p [] = Unit {0}
IsChain p (url ∷ []) = Unit {0}
IsChain p (url ∷ base ∷ others) = Rests p url base × IsChain p (base ∷ others)

-- the first of the texts is this one
abbrev pub Starts : Text → List Text → Type 0
Starts url [] = ⊥
Starts url (first ∷ others) = first ≡ url

-- the elements are the snapshot of the definition on which one rests
abbrev pub IsUnder : Definitions → Text → List Element → Type 0
IsUnder p url es = (base : Text) × Rests p url base × IsSnapshot p base es
