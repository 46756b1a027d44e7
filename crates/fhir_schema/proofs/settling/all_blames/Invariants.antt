use Rattle.std.proofs.Common.{◌≡◌, ℕ, suc, length}
use Rattle.fhir_definition.specs.Blames.{AreBlamesAmong}
use Rattle.fhir_schema.specs.Blaming.{reasons_of}
use Rattle.fhir_schema.proofs.Spreading.{IsRound}
use Rattle.fhir_schema.proofs.settling.all_blames.Given as goal

abbrev pub invariant-loop-round : goal.invariant-loop-round
invariant-loop-round l = record {
  counted : length l.found.items ≡ length l.table;
  found : (n : ℕ) × (suc n ≡ l._round) × IsRound l.table n (reasons_of l.known.items) (reasons_of l.found.items) l.last.items;
  elements : AreBlamesAmong l.table l.found.items;
}
