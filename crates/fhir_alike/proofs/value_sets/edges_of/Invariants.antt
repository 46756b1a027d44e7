use Rattle.std.proofs.Common.{◌≡◌, ◌++◌, map, drop}
use Rattle.fhir_definition.specs.Views.{lists_in}
use Rattle.fhir_alike.specs.ValueSets.{leads_to, set_edges}
use Rattle.fhir_alike.proofs.value_sets.edges_of.Given as goal

abbrev pub invariant-loop-place : goal.invariant-loop-place
invariant-loop-place l = lists_in l.edges.items ++ map (λ e. leads_to l.old e.1) (drop l.place l.old.value_sets) ≡ set_edges l.old
