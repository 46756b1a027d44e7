use Rattle.std.proofs.Common.{List, OnOk, ◌≡◌, ap, ◌∙◌, subst}
use Rattle.std.specs.List.{flat_map}
use Rattle.fhir_reach.specs.Keys.{KeyValue, with_keys}
use Rattle.fhir_reach.specs.Places.{keys_at_place}
use Rattle.fhir_reach.proofs.Placed.{keys_of_type}
use Rattle.fhir_reach.proofs.reaching.visit_code.Goals as goal

pub returns : goal.returns
returns c =
    let es = c.args.«package».now.structure_definitions in
    subst (λ (keys : List KeyValue). OnOk c.visit_places.result (c.visit_places.new.found ≡ with_keys c.args.found.now keys))
    (ap (flat_map (keys_at_place es)) (c.get.ensures ∙ c.requires c.args.code.now) ∙ keys_of_type c.args.code.now es)
    c.visit_places.ensures
