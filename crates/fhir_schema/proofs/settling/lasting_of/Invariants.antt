use Rattle.std.proofs.Common.{◌≡◌, length}
use Rattle.fhir_schema.specs.Blaming.{EachLasting}
use Rattle.fhir_schema.proofs.settling.lasting_of.Given as goal

abbrev pub invariant-loop-place : goal.invariant-loop-place
invariant-loop-place l = record {
  counted : length l.all.items ≡ l.place;
  each : EachLasting l.table l.all.items;
}
