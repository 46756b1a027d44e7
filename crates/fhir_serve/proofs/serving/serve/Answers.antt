use Rattle.fhir_serve.proofs.ServingLemmas.{GoesOn-none, GoesOn-append, HasEnded-append}
use Rattle.fhir_serve.proofs.serving.serve.Goals as goal

pub loop-init : goal.loop-init
loop-init g c = GoesOn-none g.S.Service.answers _ (g.R.Read.remaining c.args.reader.now) (g.W.Write.contents c.args.out.now)

pub loop-preserved : goal.loop-preserved
loop-preserved g c =
    GoesOn-append g.S.Service.answers _ _ _ (g.R.Read.remaining c.args.reader.now) (g.R.Read.remaining c.loop.reader) (g.R.Read.remaining c.serve_next.new.reader)
    (g.W.Write.contents c.args.out.now) (g.W.Write.contents c.loop.out) (g.W.Write.contents c.serve_next.new.out)
    c.loop.invariant c.in_default.ensures

pub returns-in-Some : goal.returns-in-Some
returns-in-Some g c =
    HasEnded-append g.S.Service.answers c.in-Some.ending _ _ _ (g.R.Read.remaining c.args.reader.now) (g.R.Read.remaining c.loop.reader)
    (g.W.Write.contents c.args.out.now) (g.W.Write.contents c.loop.out) (g.W.Write.contents c.serve_next.new.out)
    c.loop.invariant c.in-Some.ensures
