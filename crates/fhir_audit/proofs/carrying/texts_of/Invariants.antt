use Rattle.std.proofs.Common.{◌≡◌, ◌++◌, map, drop, string_bytes}
use Rattle.std.specs.Option.{option_map}
use Rattle.fhir_findings.specs.Views.{all_told_seen}
use Rattle.fhir_audit.specs.Unread.{left_of, texts_told}
use Rattle.fhir_audit.proofs.carrying.texts_of.Given as goal

abbrev pub invariant-loop-one : goal.invariant-loop-one
invariant-loop-one l =
    map string_bytes l.texts.items ++ left_of (option_map (λ t. t.now) l.given) (texts_told (all_told_seen (drop l.one-index l.told)))
    ≡ left_of (option_map (λ t. t.now) l.given) (texts_told (all_told_seen l.told))
