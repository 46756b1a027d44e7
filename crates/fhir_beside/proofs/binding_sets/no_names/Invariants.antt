use Rattle.std.proofs.Common.{◌≡◌, replicate, None}
use Rattle.fhir_beside.specs.Naming.{names_seen}
use Rattle.fhir_beside.proofs.binding_sets.no_names.Given as goal

abbrev pub invariant-loop-place : goal.invariant-loop-place
invariant-loop-place l = names_seen l.names.items ≡ replicate l._place None
