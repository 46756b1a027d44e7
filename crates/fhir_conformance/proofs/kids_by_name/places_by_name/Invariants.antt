use Rattle.std.proofs.Common.{◌≡◌, ℕ, List, take}
use Rattle.fhir_instance.specs.Items.{kids_in}
use Rattle.fhir_instance.specs.View.{named_in}
use Rattle.fhir_conformance.specs.Asks.{places_from}
use Rattle.fhir_conformance.specs.Views.{places_at}
use Rattle.fhir_conformance.proofs.kids_by_name.places_by_name.Given as goal

abbrev pub invariant-loop-position : goal.invariant-loop-position
invariant-loop-position l =
    (name : List ℕ) → places_at name l.places ≡ places_from 0 name (kids_in (named_in (take l.position l.kids)))
