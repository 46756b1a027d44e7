use Rattle.std.proofs.Common.{◌≡◌, take}
use Rattle.fhir_overlay.proofs.copying.copied_types.Given as goal

abbrev pub invariant-loop-entry : goal.invariant-loop-entry
invariant-loop-entry l = l.all.items ≡ take l.entry-index l.entries
