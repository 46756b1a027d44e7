use Rattle.fhir_json.specs.Views.{text_seen}
use Rattle.fhir_report.proofs.Carried.{next_told}
use Rattle.fhir_report.proofs.carrier_lines.told_lines.Goals as goal

pub loop-place-preserved : goal.loop-place-preserved
loop-place-preserved c = λ says is.
    next_told says c.args.told.now c.args.sentences.now c.loop-place.place c.index-told-place.result c.loop-place.lines.items c.push.new.self.items
    c.in_ok-line.line (text_seen c.sentence_at-sentence.result) c.loop-place-test.true c.index-told-place.is is (c.loop-place.invariant says is)
    c.in_ok-push.ensures.items c.in_ok-line.ensures c.sentence_at-sentence.ensures
