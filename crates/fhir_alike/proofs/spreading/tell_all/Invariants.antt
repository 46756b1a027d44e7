use Rattle.std.proofs.Common.{◌≡◌, drop}
use Rattle.fhir_alike.specs.Spreading.{tell_all}
use Rattle.fhir_alike.proofs.spreading.tell_all.Given as goal

abbrev pub invariant-loop-place : goal.invariant-loop-place
invariant-loop-place l =
    tell_all (drop l.place-index l.places) l.marked (l.told.marks.items, l.told.queue.items)
    ≡ tell_all l.places l.marked (l.fn.told.marks.items, l.fn.told.queue.items)
