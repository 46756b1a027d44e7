use Rattle.std.proofs.Common.{◌≡◌, ◌++◌, drop}
use Rattle.fhir_definition.specs.Views.{lists_in}
use Rattle.fhir_compare.specs.Comparing.{edges_from, edges}
use Rattle.fhir_compare.proofs.reaching.edges_of.Given as goal

abbrev pub invariant-loop-place : goal.invariant-loop-place
invariant-loop-place l = lists_in l.edges.items ++ edges_from l.sides.old.now l.place (drop l.place l.sides.old.now.structure_definitions) ≡ edges l.sides.old.now
