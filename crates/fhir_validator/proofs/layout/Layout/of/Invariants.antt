use Rattle.std.proofs.Common.{◌≡◌, ◌<◌, ◌≤◌, ◌-◌, ◌^◌, length, map}
use Rattle.fhir_instance.specs.View.{item_of}
use Rattle.fhir_validator.specs.Layouts.{spot_in, numbered, AreStands, AreLaid}
use Rattle.fhir_validator.proofs.layout.Layout.of.Given as goal

abbrev pub invariant-loop-at : goal.invariant-loop-at
invariant-loop-at l = record {
  stands : AreStands l.schema l.stands.items;
  each : length l.firsts.items ≡ l.at;
  within : l.at ≤ length l.stands.items;
  laid : AreLaid l.schema (map spot_in l.stands.items) l.firsts.items;
  some : 0 < length l.stands.items;
  first : numbered (map spot_in l.stands.items) 0 ≡ record { itself = item_of l.outermost; resource = item_of l.outermost };
}

abbrev pub decreases-loop-at : goal.decreases-loop-at
decreases-loop-at l = 2 ^ 64 - l.at
