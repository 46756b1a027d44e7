use Rattle.std.proofs.Common.{Contains}
use Rattle.fhir_registry.proofs.schemas.find_same.Given as goal

abbrev pub invariant-loop-kept : goal.invariant-loop-kept
invariant-loop-kept l =
    (goal.iterator-loop-kept).can_next l.kept-iterator
    × (goal.iterator-loop-kept).is_finite l.kept-iterator
    × ((e : _) → Contains l.kept-iterator e → Contains l.schemas.entries e)
