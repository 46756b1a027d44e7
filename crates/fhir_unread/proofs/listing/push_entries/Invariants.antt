use Rattle.std.proofs.Common.{◌≡◌, ◌++◌, map, filter, take, string_bytes}
use Rattle.std.specs.Prelude.{IsUtf8, All}
use Rattle.std.specs.List.{flat_map}
use Rattle.fhir_package.specs.Definitions.{Definitions}
use Rattle.fhir_findings.specs.Sentences.{sentence_for}
use Rattle.fhir_findings.specs.Views.{all_told_seen, firsts_seen, texts_seen}
use Rattle.fhir_unread.specs.Listing.{entry}
use Rattle.fhir_unread.specs.Seen.{AreGrouped}
use Rattle.fhir_unread.specs.Unread.{is_rule, given_text}
use Rattle.fhir_unread.proofs.listing.push_entries.Given as goal

abbrev pub invariant-loop-place : goal.invariant-loop-place
invariant-loop-place l = record {
  pushed : (p : Definitions) → AreGrouped p l.groups → texts_seen l.sentences ≡ map (sentence_for p) (firsts_seen l.told)
      → string_bytes l.into ≡ string_bytes l.fn.into ++ flat_map (entry p) (filter (λ t. is_rule t.first) (all_told_seen (take l.place l.told)));
  utf8 : All IsUtf8 (map (λ t. given_text t.first) (filter (λ t. is_rule t.first) (all_told_seen (take l.place l.told))));
}
