use Rattle.std.proofs.Common.{◌≡◌, map, filter, take, string_bytes}
use Rattle.fhir_findings.specs.Views.{all_told_seen}
use Rattle.fhir_unread.specs.Unread.{is_rule, given_text}
use Rattle.fhir_unread.proofs.telling.texts_of.Given as goal

abbrev pub invariant-loop-one : goal.invariant-loop-one
invariant-loop-one l =
    map string_bytes l.texts.items ≡ map (λ t. given_text t.first) (filter (λ t. is_rule t.first) (all_told_seen (take l.one-index l.told)))
