use Rattle.std.proofs.Common.{◌≡◌, map, take}
use Rattle.fhir_definition.specs.Views.{lists_in}
use Rattle.fhir_nodes.specs.Slots.{slots_under}
use Rattle.fhir_nodes.proofs.slots.slots_of.Given as goal

abbrev pub invariant-loop-places : goal.invariant-loop-places
invariant-loop-places l = l.all.items ≡ map (slots_under l.table l.definition) (lists_in (take l.places-index l.places-items))
