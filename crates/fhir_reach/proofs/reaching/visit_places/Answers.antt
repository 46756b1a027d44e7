use Rattle.std.proofs.Common.{ℕ, List, get_or, refl}
use Rattle.std.specs.List.{flat_map}
use Rattle.std.proofs.lemmas.List.{get_or_default}
use Rattle.fhir_reach.specs.Places.{keys_at_place}
use Rattle.fhir_reach.proofs.Adding.{next}
use Rattle.fhir_reach.proofs.reaching.visit_places.Goals as goal

pub loop-place-preserved : goal.loop-place-preserved
loop-place-preserved c =
    let es = c.args.«package».now.structure_definitions in
    let places = c.args.places.now in
    let i = c.loop-place.place-index in
    next (λ (xs : List ℕ). flat_map (keys_at_place es) xs) (keys_at_place es) (λ x xs. refl) places i (get_or places i 0)
    c.loop-place.found c.visit_place.new.found _ c.loop-place-test.true
    (get_or_default places i 0 (get_or places i 0) c.loop-place-test.true) c.in_ok-visit_place.ensures c.loop-place.invariant
