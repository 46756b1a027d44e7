-- What is to blame for each of some definitions.
use Rattle.std.specs.Prelude.{◌≡◌, ℕ, List, length, get_or, Option, None, Some}
use Rattle.std.specs.List.{slice_get}
use Rattle.fhir_elements.specs.declared.cause.Blame.{Blame}
use Rattle.fhir_elements.specs.Causes.{is_blame_among}
use Rattle.fhir_definition.specs.Definition.{Definition}

-- each names an element of its definition, if it names one
abbrev pub AreBlamesAmong : List Definition → List (Option Blame) → Type 0
AreBlamesAmong ds blames =
    (place : ℕ) (d : Definition) → slice_get ds place ≡ Some d → is_blame_among (length d.elements) (get_or blames place None)
