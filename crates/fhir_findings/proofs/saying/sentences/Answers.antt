use Rattle.std.proofs.Common.{List, Option, Bor, sym, ap, subst, ◌∙◌}
use Rattle.fhir_json.specs.Tree.{Text}
use Rattle.fhir_findings.specs.declared.once.Told.{Told as ToldOf}
use Rattle.fhir_findings.specs.declared.saying.Wording.{Wording as WordingOf}
use Rattle.fhir_findings.specs.Carrying.{Carrier}
use Rattle.fhir_findings.specs.Seeking.{AreSaid, said_for}
use Rattle.fhir_findings.specs.Sentences.{first_said, sentence_for}
use Rattle.fhir_findings.specs.Views.{carrier_seen, wordings_seen, texts_seen, firsts_seen}
use Rattle.fhir_findings.proofs.Said.{sentence_said}
use Rattle.fhir_findings.proofs.Wordings.{get_seen, next_sentence}
use Rattle.fhir_findings.proofs.saying.sentences.Goals as goal

pub loop-place-preserved : goal.loop-place-preserved
loop-place-preserved c =
    let told = c.args.told.now in
    let x = c.index-told-place.result in
    let seen : Carrier = carrier_seen x.first in
    let E = c.in_ok-sought.sought.expressions in
    let K = c.in_ok-sought.sought.keys in
    let P : List (Option (Bor Text)) → Type 0 = λ f. AreSaid E K (firsts_seen told) (texts_seen f) (wordings_seen c.deref.result.now) in
    let Q : List WordingOf → Type 0 = λ ws. AreSaid E K (firsts_seen told) (texts_seen c.deref-in-loop-place.result.now) (wordings_seen ws) in
    let are = subst Q (c.deref.ensures.value ∙ sym c.deref-in-loop-place-2.ensures.value)
    (subst P (sym c.deref-in-loop-place.ensures.value) c.in_ok-found.ensures) in
    let said = c.sentence_at-sentence.ensures (firsts_seen told) are
    (get_seen (λ (t : ToldOf). carrier_seen t.first) told c.loop-place.place x c.loop-place-test.true c.index-told-place.is)
    ∙ ap (λ (ws : List WordingOf). first_said (said_for seen) (wordings_seen ws)) c.deref-in-loop-place-2.ensures.value
    ∙ ap (first_said (said_for seen)) c.in_ok-wordings.ensures
    ∙ sentence_said c.args.package.now seen in
    next_sentence (sentence_for c.args.package.now) told c.loop-place.place x c.loop-place.all.items c.push.new.self.items c.sentence_at-sentence.result
    c.loop-place-test.true c.index-told-place.is c.loop-place.invariant c.in_ok-push.ensures.items said
