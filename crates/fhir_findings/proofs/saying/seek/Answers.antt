use Rattle.std.proofs.Common.{List, take, subst}
use Rattle.std.proofs.lemmas.List.{take_all}
use Rattle.fhir_findings.specs.declared.saying.Wording.{Wording as WordingOf}
use Rattle.fhir_findings.specs.Seeking.{AreSaid}
use Rattle.fhir_findings.specs.Views.{wordings_seen, texts_seen, firsts_seen}
use Rattle.fhir_findings.proofs.Said.{none_kept}
use Rattle.fhir_findings.proofs.Wordings.{next_kept}
use Rattle.fhir_findings.proofs.saying.seek.Goals as goal

pub loop-wording-init : goal.loop-wording-init
loop-wording-init c =
    none_kept c.args.sought.now.expressions c.args.sought.now.keys (firsts_seen c.args.told.now) (texts_seen c.in_ok-found.found.items) c.in_ok-found.ensures

pub loop-wording-preserved : goal.loop-wording-preserved
loop-wording-preserved c =
    next_kept c.args.sought.now.expressions c.args.sought.now.keys (firsts_seen c.args.told.now) (texts_seen c.keep_each.new.found.items)
    c.args.wordings.now c.loop-wording.wording-index _ c.loop-wording-test.true
    (c.keep_each.ensures (wordings_seen (take c.loop-wording.wording-index c.args.wordings.now)) c.loop-wording.invariant)

pub returns : goal.returns
returns c =
    let P : List WordingOf → Type 0 =
    λ ws. AreSaid c.args.sought.now.expressions c.args.sought.now.keys (firsts_seen c.args.told.now) (texts_seen c.loop-wording.found.items) (wordings_seen ws) in
    subst P (take_all c.loop-wording.wording-index c.args.wordings.now c.loop-wording-test.false) c.loop-wording.invariant
