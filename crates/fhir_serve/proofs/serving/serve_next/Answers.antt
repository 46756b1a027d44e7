use Rattle.fhir_serve.proofs.ServingLemmas.{answered, GoesOn-none, HasEnded-unread, HasEnded-done}
use Rattle.fhir_serve.proofs.serving.serve_next.Goals as goal

pub returns-in-Held : goal.returns-in-Held
returns-in-Held g c =
    let told = c.answer-written.ensures in
    answered g.S.Service.answers c.ended_by.result _ _ (g.R.Read.remaining c.args.reader.now) (g.R.Read.remaining c.next_line.new.reader)
    (g.W.Write.contents c.args.out.now) (g.W.Write.contents c.ended_by.new.out)
    c.in-Held.line.items told.0 c.in-Held.ensures (rw c.deref.ensures.value at told.1) (c.ended_by.ensures (g.W.Write.contents c.args.out.now) told.0 told.2)

pub returns-in-Unheld : goal.returns-in-Unheld
returns-in-Unheld g c =
    let line = c.in-Unheld.ensures.0 in
    let told = c.unheld-written.ensures line in
    answered g.S.Service.answers c.ended_by-in-Unheld.result _ _ (g.R.Read.remaining c.args.reader.now) (g.R.Read.remaining c.next_line.new.reader)
    (g.W.Write.contents c.args.out.now) (g.W.Write.contents c.ended_by-in-Unheld.new.out)
    line told.0 c.in-Unheld.ensures.1 told.1 (c.ended_by-in-Unheld.ensures (g.W.Write.contents c.args.out.now) told.0 told.2)

pub returns-in-End : goal.returns-in-End
returns-in-End g c = HasEnded-done g.S.Service.answers _ (g.R.Read.remaining c.args.reader.now) (g.W.Write.contents c.args.out.now) c.in-End.ensures

pub returns-in-Failure : goal.returns-in-Failure
returns-in-Failure g c =
    let known = g.R.Read.remaining c.args.reader.now in
    let old = g.W.Write.contents c.args.out.now in
    HasEnded-unread g.S.Service.answers _ _ known known old old (GoesOn-none g.S.Service.answers c.args.service.now known old)
