use Rattle.snapshot_laws.proofs.Implied.{paths}
use Rattle.snapshot_laws.proofs.slicings.paths_of_new_slices.Goals as goal

pub returns : goal.returns
returns c = λ p url id whole segments d n new unsaid reads. paths p url id whole segments d n new unsaid reads
