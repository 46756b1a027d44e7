use Rattle.std.proofs.Common.{Option, [], ap, ◌∙◌}
use Rattle.std.specs.Option.{option_map_or}
use Rattle.fhir_nodes.specs.Slots.{Slot}
use Rattle.fhir_validator.specs.Issues.{in_slices}
use Rattle.fhir_validator.proofs.breaches.slices_of_item.Goals as goal

pub returns-in-Some : goal.returns-in-Some
returns-in-Some c =
    (λ i. in_slices (c.name.ensures i) (c.name-in-Some.ensures i))
    ∙ ap (λ (o : Option (Slot × Slot)). option_map_or (λ two. in_slices two.0.name two.1.name) o (in_slices [] [])) c.in-Some.ensures

pub returns-in-None : goal.returns-in-None
returns-in-None c =
    ap (λ (o : Option (Slot × Slot)). option_map_or (λ two. in_slices two.0.name two.1.name) o (in_slices [] [])) c.in-None.ensures
