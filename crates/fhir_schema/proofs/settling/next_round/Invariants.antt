use Rattle.std.proofs.Common.{◌≡◌, [], drop, length}
use Rattle.fhir_definition.specs.Blames.{AreBlamesAmong}
use Rattle.fhir_definition.specs.Views.{lists_in}
use Rattle.fhir_schema.specs.Blaming.{reasons_of, reason_in, users_judged, users_queued}
use Rattle.fhir_schema.proofs.settling.next_round.Given as goal

abbrev pub invariant-loop-place : goal.invariant-loop-place
invariant-loop-place l = record {
  counted : length l.found ≡ length l.initial.found;
  reasons : users_judged (reason_in l.table (reasons_of l.known)) (lists_in l.users) (drop l.place-index l.last) (reasons_of l.found)
      ≡ users_judged (reason_in l.table (reasons_of l.known)) (lists_in l.users) l.last (reasons_of l.initial.found);
  round : users_queued (reason_in l.table (reasons_of l.known)) (lists_in l.users) (drop l.place-index l.last) (reasons_of l.found) l.round.items
      ≡ users_queued (reason_in l.table (reasons_of l.known)) (lists_in l.users) l.last (reasons_of l.initial.found) [];
  elements : AreBlamesAmong l.table l.initial.found → AreBlamesAmong l.table l.found;
}
