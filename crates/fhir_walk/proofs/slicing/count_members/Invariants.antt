use Rattle.std.proofs.Common.{◌≡◌, length, drop, ◌+◌, ◌≤◌}
use Rattle.fhir_instance.specs.View.{item_of}
use Rattle.fhir_walk.proofs.Sliced.{members_from}
use Rattle.fhir_walk.proofs.slicing.count_members.Given as goal

abbrev pub invariant-loop-kid : goal.invariant-loop-kid
invariant-loop-kid l = record {
  counted : l.count + length (members_from l.schema (item_of l.item) l.slice l.name l.kid-index (drop l.kid-index l.kid-items))
      ≡ length (members_from l.schema (item_of l.item) l.slice l.name 0 l.kid-items);
  bounded : l.count ≤ l.kid-index;
}
