use Rattle.std.proofs.Common.{Some, None, sym, ◌∙◌}
use Rattle.fhir_names.specs.FirstPlaces.{item_at_place}
use Rattle.fhir_nodes.proofs.slot_list.find_by_index.Goals as goal

pub returns-in-Some : goal.returns-in-Some
returns-in-Some c =
    c.slot_at.ensures
    ∙ item_at_place (λ slot. slot.name) c.args.names.now c.args.slots.now c.args.name.now (Some c.in-Some.place) c.requires (sym c.in-Some.is ∙ c.get.ensures)

pub returns-in-None : goal.returns-in-None
returns-in-None c =
    item_at_place (λ slot. slot.name) c.args.names.now c.args.slots.now c.args.name.now None c.requires (sym c.in-None.is ∙ c.get.ensures)
