use Rattle.std.proofs.Common.{◌≡◌, ℕ, ◌+◌, ◌++◌, ◌∷◌, [], cond, List, take, length, length-take, sym, ap, ◌∙◌, arith}
use Rattle.std.specs.Option.{option_map}
use Rattle.fhir_json.specs.Tree.{Text, Tree}
use Rattle.fhir_json.specs.Views.{tree_of}
use Rattle.fhir_inheritance.proofs.Sourced.{take-some, take-none}
use Rattle.fhir_reach.specs.Reach.{is_type_of}
use Rattle.fhir_reach.specs.Places.{PlacesByCode, places_under, type_places}
use Rattle.fhir_reach.proofs.Placed.{places_snoc}
use Rattle.fhir_reach.proofs.places.TypePlaces.of.Goals as goal
use Rattle.fhir_reach.proofs.places.TypePlaces.of.Goals.{in-Some+in_ok-add_if_type, in_default}

pub loop-place-preserved : goal.loop-place-preserved
loop-place-preserved c =
    let es = c.args.«package».now.structure_definitions in
    let k = c.loop-place.place in
    elim c.match-at.branch [
      | in-Some+in_ok-add_if_type w ↦ λ code.
          let t = tree_of w.in-Some.definition.now in
          let e : Text × Tree = (w.in-Some.field-0-0.now, t) in
          let took : take (k + 1) es ≡ take k es ++ e ∷ [] = take-some es k e (sym c.at.ensures ∙ ap (λ o. option_map (λ e. (e.0.now, tree_of e.1.now)) o) w.in-Some.is) in
          let here : k ≡ 0 + length (take k es) = omega (arith, length-take k es, c.loop-place-test.true, c.len-place-end.ensures) in
          ap (λ (t : PlacesByCode). places_under t code) w.types-is ∙ w.in_ok-add_if_type.ensures code
          ∙ ap (λ (ns : List ℕ). cond (is_type_of code t) (ns ++ k ∷ []) ns) (c.loop-place.invariant code)
          ∙ sym (places_snoc code 0 k (take k es) e here) ∙ sym (ap (type_places code 0) took)
      | in_default w ↦ λ code.
          let took : take (k + 1) es ≡ take k es = take-none es k (sym c.at.ensures ∙ ap (λ o. option_map (λ e. (e.0.now, tree_of e.1.now)) o) w.in_default.is) in
          ap (λ (t : PlacesByCode). places_under t code) w.types-is ∙ c.loop-place.invariant code ∙ sym (ap (type_places code 0) took)
    ]
