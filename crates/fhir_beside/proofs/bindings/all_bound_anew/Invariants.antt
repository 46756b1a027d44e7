use Rattle.std.proofs.Common.{◌≡◌, map, take}
use Rattle.fhir_alike.specs.ValueSets.{kept_by}
use Rattle.fhir_beside.specs.Made.{bound_anew}
use Rattle.fhir_beside.proofs.bindings.all_bound_anew.Given as goal

abbrev pub invariant-loop-element : goal.invariant-loop-element
invariant-loop-element l = l.all.items ≡ map (bound_anew (kept_by l.sides.old.now l.sides.new.now l.sides.changes.now.changed.items) l.sides.mark.now) (take l.element-index l.elements)
