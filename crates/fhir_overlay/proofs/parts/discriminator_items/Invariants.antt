use Rattle.std.proofs.Common.{◌≡◌, map, take}
use Rattle.fhir_json.specs.Views.{trees_of}
use Rattle.fhir_overlay.specs.Json.{discriminator_tree}
use Rattle.fhir_overlay.proofs.parts.discriminator_items.Given as goal

abbrev pub invariant-loop-discriminator : goal.invariant-loop-discriminator
invariant-loop-discriminator l = trees_of l.items.items ≡ map discriminator_tree (take l.discriminator-index l.discriminators)
