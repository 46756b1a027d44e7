use Rattle.std.proofs.Common.{◌≡◌, drop}
use Rattle.std.specs.List.{list_any}
use Rattle.fhir_definition.specs.Cases.{reasons_of, is_case_of}
use Rattle.fhir_definition.proofs.blames.first_of.Given as goal

abbrev pub invariant-loop-place : goal.invariant-loop-place
invariant-loop-place l =
    list_any (is_case_of l.reason) (reasons_of (drop l.place l.causes)) ≡ list_any (is_case_of l.reason) (reasons_of l.causes)
