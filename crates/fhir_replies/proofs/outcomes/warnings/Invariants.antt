use Rattle.std.proofs.Common.{◌≡◌, ◌<◌, length, All, codes}
use Rattle.std.specs.BTreeSet.{btree_set_len}
use Rattle.fhir_json.specs.Views.{trees_of}
use Rattle.fhir_replies.specs.Outcomes.{HasSeverity}
use Rattle.fhir_replies.proofs.outcomes.warnings.Given as goal

abbrev pub invariant-loop-site : goal.invariant-loop-site
invariant-loop-site l =
    (btree_set_len l.all.texts ≡ length l.all.issues.items) × (0 < l.site-index → 0 < btree_set_len l.all.texts)
    × (l.site-index-end ≡ length l.sites.items)
    × All (HasSeverity (codes "warning")) (trees_of l.all.issues.items)
