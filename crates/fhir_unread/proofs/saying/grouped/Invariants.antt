use Rattle.std.proofs.Common.{◌≡◌, take, filter}
use Rattle.std.specs.Str.{bytes_eq}
use Rattle.fhir_json.specs.Tree.{Text}
use Rattle.fhir_unread.specs.Seen.{sayings_seen, kept_under}
use Rattle.fhir_unread.proofs.saying.grouped.Given as goal

abbrev pub invariant-loop-saying : goal.invariant-loop-saying
invariant-loop-saying l =
    (key : Text) → sayings_seen (kept_under key l.groups) ≡ filter (λ y. bytes_eq key y.key) (sayings_seen (take l.saying-index l.sayings))
