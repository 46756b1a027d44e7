use Rattle.std.proofs.Common.{◌≡◌, drop}
use Rattle.fhir_definition.specs.Views.{lists_in}
use Rattle.fhir_schema.specs.Resting.{users_from, users_of}
use Rattle.fhir_schema.proofs.resting.users_of.Given as goal

abbrev pub invariant-loop-definition : goal.invariant-loop-definition
invariant-loop-definition l = users_from l.table (drop l.definition-index l.definition-items) (lists_in l.users.items) ≡ users_of l.table
