use Rattle.std.proofs.Common.{◌≡◌, drop, length}
use Rattle.fhir_definition.specs.Blames.{AreBlamesAmong}
use Rattle.fhir_schema.specs.Blaming.{reasons_of, reason_in, all_judged, all_queued}
use Rattle.fhir_schema.proofs.settling.judge_each.Given as goal

abbrev pub invariant-loop-place : goal.invariant-loop-place
invariant-loop-place l = record {
  counted : length l.found ≡ length l.initial.found;
  reasons : all_judged (reason_in l.table (reasons_of l.known)) (drop l.place-index l.places) (reasons_of l.found)
      ≡ all_judged (reason_in l.table (reasons_of l.known)) l.places (reasons_of l.initial.found);
  round : all_queued (reason_in l.table (reasons_of l.known)) (drop l.place-index l.places) (reasons_of l.found) l.round.items
      ≡ all_queued (reason_in l.table (reasons_of l.known)) l.places (reasons_of l.initial.found) l.initial.round.items;
  elements : AreBlamesAmong l.table l.initial.found → AreBlamesAmong l.table l.found;
}
