use Rattle.std.proofs.Common.{◌≡◌, drop}
use Rattle.std.specs.List.{list_all}
use Rattle.fhir_schema.specs.Settling.{element_is_usable}
use Rattle.fhir_schema.specs.Blaming.{reasons_of}
use Rattle.fhir_schema.proofs.types.elements_blame.Given as goal

abbrev pub invariant-loop-place : goal.invariant-loop-place
invariant-loop-place l =
    list_all (element_is_usable l.table (reasons_of l.blames)) (drop l.place l.elements) ≡ list_all (element_is_usable l.table (reasons_of l.blames)) l.elements
