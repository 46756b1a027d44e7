use Rattle.std.proofs.Common.{◌≡◌, drop}
use Rattle.std.specs.List.{list_all}
use Rattle.fhir_json.specs.Views.{trees_of}
use Rattle.fhir_elements.specs.Slicing.{is_discriminator}
use Rattle.fhir_elements.proofs.slicing.are_discriminators.Given as goal

abbrev pub invariant-loop-item : goal.invariant-loop-item
invariant-loop-item l = list_all is_discriminator (trees_of (drop l.item-index l.items)) ≡ list_all is_discriminator (trees_of l.items)
