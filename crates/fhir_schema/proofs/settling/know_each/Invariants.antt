use Rattle.std.proofs.Common.{◌≡◌, drop}
use Rattle.fhir_schema.specs.Blaming.{reasons_of, all_known}
use Rattle.fhir_schema.proofs.settling.know_each.Given as goal

abbrev pub invariant-loop-place : goal.invariant-loop-place
invariant-loop-place l =
    all_known (drop l.place-index l.places) (reasons_of l.found) (reasons_of l.known) ≡ all_known l.places (reasons_of l.found) (reasons_of l.initial.known)
