use Rattle.std.proofs.Common.{◌≡◌, ◌<◌, length, All, codes}
use Rattle.std.specs.BTreeSet.{btree_set_len}
use Rattle.fhir_json.specs.Views.{trees_of}
use Rattle.fhir_replies.specs.Outcomes.{HasSeverity}
use Rattle.fhir_replies.proofs.outcomes.violations.Given as goal

abbrev pub invariant-loop-issue : goal.invariant-loop-issue
invariant-loop-issue l =
    (btree_set_len l.all.texts ≡ length l.all.issues.items) × (0 < l.issue-index → 0 < btree_set_len l.all.texts)
    × (l.issue-index-end ≡ length l.issues.items)
    × All (HasSeverity (codes "error")) (trees_of l.all.issues.items)
