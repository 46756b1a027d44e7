use Rattle.std.proofs.Common.{List, map, string_bytes, subst}
use Rattle.std.specs.Prelude.{IsUtf8, All}
use Rattle.std.proofs.lemmas.List.{take_all}
use Rattle.fhir_json.specs.Views.{text_seen}
use Rattle.fhir_findings.specs.Sentences.{sentence_for}
use Rattle.fhir_findings.specs.Views.{all_told_seen, texts_seen}
use Rattle.fhir_findings.specs.declared.once.Told.{Told as ToldOf}
use Rattle.fhir_unread.specs.Listing.{entry}
use Rattle.fhir_unread.specs.Unread.{given_text}
use Rattle.fhir_unread.proofs.Entries.{rules_in, next_entry, next_utf8, said_there}
use Rattle.fhir_unread.proofs.listing.push_entries.Goals as goal

pub loop-place-preserved : goal.loop-place-preserved
loop-place-preserved c =
    let told = c.args.told.now in
    let k = c.loop-place.place in
    let x = c.index-told-place.result in
    record {
      pushed = λ p grouped all.
          next_entry told k x c.loop-place-test.true c.index-told-place.is (entry p) (string_bytes c.args.into.now) (string_bytes c.loop-place.into)
          (string_bytes c.push_entry.new.into) (c.loop-place.invariant.pushed p grouped all)
          (c.in_ok-push_entry.ensures.pushed p grouped
          (said_there told k x c.loop-place-test.true c.index-told-place.is (sentence_for p) (texts_seen c.args.sentences.now)
          (text_seen c.sentence_at-sentence.result) all c.sentence_at-sentence.ensures));
      utf8 = next_utf8 told k x c.loop-place-test.true c.index-told-place.is c.loop-place.invariant.utf8 c.in_ok-push_entry.ensures.utf8;
    }

pub returns-clause-utf8 : goal.returns-clause-utf8
returns-clause-utf8 c =
    subst (λ (ts : List ToldOf). All IsUtf8 (map (λ t. given_text t.first) (rules_in (all_told_seen ts))))
    (take_all c.loop-place.place c.args.told.now c.loop-place-test.false) c.loop-place.invariant.utf8
