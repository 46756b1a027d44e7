use Rattle.std.proofs.Common.{◌≡◌, map, take, length}
use Rattle.fhir_elements.specs.Tests.{first_of}
use Rattle.fhir_definition.specs.Blames.{AreBlamesAmong}
use Rattle.fhir_schema.specs.Settling.{tests, no_reasons}
use Rattle.fhir_schema.specs.Blaming.{reasons_of}
use Rattle.fhir_schema.proofs.settling.first_round.Given as goal

abbrev pub invariant-loop-place : goal.invariant-loop-place
invariant-loop-place l = record {
  counted : length l.all.items ≡ l.place;
  reasons : reasons_of l.all.items ≡ map (λ d. first_of (tests l.table (no_reasons l.table) d)) (take l.place l.definition-items);
  elements : AreBlamesAmong l.table l.all.items;
}
