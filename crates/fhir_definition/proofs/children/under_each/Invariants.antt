use Rattle.std.proofs.Common.{◌≡◌, take, length}
use Rattle.fhir_definition.specs.Children.{under_each_from}
use Rattle.fhir_definition.specs.Views.{lists_in}
use Rattle.fhir_definition.proofs.children.under_each.Given as goal

abbrev pub invariant-loop-place : goal.invariant-loop-place
invariant-loop-place l = lists_in l.all.items ≡ under_each_from 0 (length l.ups) (take l.place l.ups)
