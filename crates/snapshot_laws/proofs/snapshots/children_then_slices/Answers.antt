use Rattle.snapshot_laws.proofs.Standing.{in_order}
use Rattle.snapshot_laws.proofs.snapshots.children_then_slices.Goals as goal

pub returns : goal.returns
returns c = in_order
