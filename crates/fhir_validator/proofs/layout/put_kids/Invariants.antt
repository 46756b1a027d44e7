use Rattle.std.proofs.Common.{◌≡◌, ◌++◌, map, take}
use Rattle.fhir_instance.specs.View.{item_of}
use Rattle.fhir_validator.specs.Layouts.{spot_in, AreStands}
use Rattle.fhir_validator.proofs.Rows.{spot_of_kid}
use Rattle.fhir_validator.proofs.layout.put_kids.Given as goal

abbrev pub invariant-loop-position : goal.invariant-loop-position
invariant-loop-position l = record {
  items : map spot_in l.stands.items ≡ map spot_in l.fn.stands.items ++ take l.position (map (spot_of_kid l.schema (item_of l.around)) l.kids);
  stands : AreStands l.schema l.fn.stands.items → AreStands l.schema l.stands.items;
}
