use Rattle.std.proofs.Common.{◌++◌, ℕ, [], get_or}
use Rattle.std.specs.Borrow.{Bor}
use Rattle.fhir_json.specs.Tree.{Text}
use Rattle.fhir_bulk.specs.Running.{count_text}
use Rattle.fhir_bulk.proofs.Grown.{grown, next}
use Rattle.fhir_bulk.proofs.running.write_counts.Goals as goal

pub loop-name-preserved : goal.loop-name-preserved
loop-name-preserved g c =
    let before = c.loop-name.invariant in
    let none : Bor Text × ℕ = (record { ref_ptr = (0, 0); now = [] }, 0) in
    let count = get_or c.args.counts.now c.loop-name.name-index none in
    let told = count_text (count.0.now, count.1) in (
      before.0 ++ told,
      grown _ _ _ before.0 told before.1 c.in_ok-write_count.ensures,
      next (λ (n : Bor Text × ℕ). (n.0.now, n.1)) count_text before.0 _ c.args.counts.now c.loop-name.name-index none c.loop-name-test.true before.2,
    )
