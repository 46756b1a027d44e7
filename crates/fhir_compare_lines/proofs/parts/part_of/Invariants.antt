use Rattle.std.proofs.Common.{◌≡◌, drop}
use Rattle.fhir_compare.specs.Views.{all_said}
use Rattle.fhir_compare_lines.specs.Parts.{worst_behind, part_of}
use Rattle.fhir_compare_lines.proofs.parts.part_of.Given as goal

abbrev pub invariant-loop-one : goal.invariant-loop-one
invariant-loop-one l = worst_behind l.audience l.part (all_said (drop l.one-index l.compared)) ≡ part_of l.audience (all_said l.compared)
