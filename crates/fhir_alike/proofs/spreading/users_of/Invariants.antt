use Rattle.std.proofs.Common.{◌≡◌, drop}
use Rattle.fhir_definition.specs.Views.{lists_in}
use Rattle.fhir_alike.specs.Spreading.{users_from, users_of}
use Rattle.fhir_alike.proofs.spreading.users_of.Given as goal

abbrev pub invariant-loop-place : goal.invariant-loop-place
invariant-loop-place l = users_from l.place (lists_in (drop l.place l.edges)) (lists_in l.users.items) ≡ users_of (lists_in l.edges)
