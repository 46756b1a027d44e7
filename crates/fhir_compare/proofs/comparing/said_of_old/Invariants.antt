use Rattle.std.proofs.Common.{◌≡◌, ◌++◌, drop, length}
use Rattle.fhir_compare.specs.Owns.{all_said_by}
use Rattle.fhir_compare.specs.Views.{all_owns, all_said}
use Rattle.fhir_compare.proofs.comparing.said_of_old.Given as goal

abbrev pub invariant-loop-place : goal.invariant-loop-place
invariant-loop-place l =
    all_said l.said.items
    ++ all_said_by l.old l.blamed.new_in_old.items l.blamed.old_in_new.items (length l.yielded) (all_owns (drop (length l.yielded) l.fn.all.items))
    ≡ all_said_by l.old l.blamed.new_in_old.items l.blamed.old_in_new.items 0 (all_owns l.fn.all.items)
