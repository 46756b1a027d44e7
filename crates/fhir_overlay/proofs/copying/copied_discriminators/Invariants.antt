use Rattle.std.proofs.Common.{◌≡◌, take}
use Rattle.fhir_overlay.proofs.copying.copied_discriminators.Given as goal

abbrev pub invariant-loop-discriminator : goal.invariant-loop-discriminator
invariant-loop-discriminator l = l.all.items ≡ take l.discriminator-index l.discriminators
