use Rattle.std.proofs.Common.{◌≡◌, drop}
use Rattle.fhir_definition.specs.Views.{lists_in}
use Rattle.fhir_schema.specs.Resting.{put_under}
use Rattle.fhir_schema.proofs.resting.put_under.Given as goal

abbrev pub invariant-loop-at : goal.invariant-loop-at
invariant-loop-at l =
    put_under (drop l.at-index l.ats) l.place (lists_in l.all.items) ≡ put_under l.ats l.place (lists_in l.initial.all.items)
