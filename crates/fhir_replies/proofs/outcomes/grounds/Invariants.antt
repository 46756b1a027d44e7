use Rattle.std.proofs.Common.{◌≡◌, ◌<◌, length, All, codes}
use Rattle.std.specs.BTreeSet.{btree_set_len}
use Rattle.fhir_json.specs.Views.{trees_of}
use Rattle.fhir_replies.specs.Outcomes.{HasSeverity}
use Rattle.fhir_replies.proofs.outcomes.grounds.Given as goal

abbrev pub invariant-loop-site : goal.invariant-loop-site
invariant-loop-site l =
    (btree_set_len l.all.texts ≡ length l.all.issues.items) × (0 < btree_set_len l.all.texts)
    × All (HasSeverity (codes "information")) (trees_of l.all.issues.items)
