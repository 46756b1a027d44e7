use Rattle.std.proofs.Common.{◌≡◌, drop}
use Rattle.std.specs.List.{list_all}
use Rattle.fhir_schema.specs.Settling.{target_is_usable}
use Rattle.fhir_schema.specs.Blaming.{reasons_of}
use Rattle.fhir_schema.proofs.types.targets_blame.Given as goal

abbrev pub invariant-loop-place : goal.invariant-loop-place
invariant-loop-place l =
    list_all (target_is_usable l.table (reasons_of l.blames) l.definition) (drop l.place l.element-items)
    ≡ list_all (target_is_usable l.table (reasons_of l.blames) l.definition) l.element-items
