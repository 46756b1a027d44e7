use Rattle.std.proofs.Common.{◌≡◌, ◌<◌, take, is_some}
use Rattle.std.specs.Prelude.{IfSome}
use Rattle.fhir_json.specs.Tree.{Text}
use Rattle.fhir_matching.specs.Places.{place_at}
use Rattle.fhir_matching.proofs.Sides.{naming}
use Rattle.fhir_matching.proofs.indexed.places_by_name.Given as goal

abbrev pub invariant-loop-place : goal.invariant-loop-place
invariant-loop-place l =
    ((name : Text) → is_some (place_at name l.places) ≡ naming name (take l.place l.members))
    × ((name : Text) → IfSome (place_at name l.places) (λ place. place < l.place))
