use Rattle.std.proofs.Common.{[], ◌∷◌}
use Rattle.fhir_vouching.proofs.Trees.{tree-arr, tree-obj}
use Rattle.fhir_vouching.proofs.Pieces.{both, stays}
use Rattle.fhir_vouching.proofs.progress.Progress.+compact.Goals as goal

pub then_compact-returns-in-Decided : goal.then_compact-returns-in-Decided
then_compact-returns-in-Decided t c = rw c.in-Decided.is (stays c.in-Decided.order _)

pub then_compact-returns-in-Arr : goal.then_compact-returns-in-Arr
then_compact-returns-in-Arr t c =
    let items = rw c.deref.ensures.value at c.then_items.ensures in
    rw (c.in-Arr.is, tree-arr c.in-Arr.items)
    (both c.args.self c.then-in-Arr.result c.then-in-Arr-2.result (91 ∷ []) _ c.then-in-Arr.ensures
    (both c.then-in-Arr.result c.then_items.result c.then-in-Arr-2.result _ (93 ∷ []) items c.then-in-Arr-2.ensures))

pub then_compact-returns-in-Obj : goal.then_compact-returns-in-Obj
then_compact-returns-in-Obj t c =
    let members = rw c.deref-in-Obj.ensures.value at c.then_members.ensures in
    rw (c.in-Obj.is, tree-obj c.in-Obj.members)
    (both c.args.self c.then-in-Obj.result c.then-in-Obj-2.result (123 ∷ []) _ c.then-in-Obj.ensures
    (both c.then-in-Obj.result c.then_members.result c.then-in-Obj-2.result _ (125 ∷ []) members c.then-in-Obj-2.ensures))
