use Rattle.std.proofs.Common.{◌≡◌, map, take}
use Rattle.fhir_json.specs.Views.{trees_of}
use Rattle.fhir_elements.specs.Slicing.{discriminator_of}
use Rattle.fhir_elements.proofs.slicing.discriminators_of.Given as goal

abbrev pub invariant-loop-item : goal.invariant-loop-item
invariant-loop-item l = l.discriminators.items ≡ map discriminator_of (trees_of (take l.item-index l.items))
