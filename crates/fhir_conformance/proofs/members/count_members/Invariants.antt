use Rattle.std.proofs.Common.{◌≡◌, ◌+◌, ◌≤◌, length, drop}
use Rattle.fhir_instance.specs.View.{item_of}
use Rattle.fhir_conformance.specs.Positions.{members}
use Rattle.fhir_conformance.proofs.members.count_members.Given as goal

abbrev pub invariant-loop-place : goal.invariant-loop-place
invariant-loop-place l =
    record {
      counted : l.count + length (members l.schema (item_of l.item) l.slice (drop l.place-index l.places)) ≡ length (members l.schema (item_of l.item) l.slice l.places);
      bounded : l.count ≤ l.place-index;
    }
