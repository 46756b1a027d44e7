use Rattle.fhir_serve.specs.Ending.{GoesOn}
use Rattle.fhir_serve.proofs.serving.serve.Given as goal

abbrev pub invariant-loop : goal.invariant-loop
invariant-loop g l =
    GoesOn g.S.Service.answers l.initial.service l.service (g.R.Read.remaining l.initial.reader) (g.R.Read.remaining l.reader)
    (g.W.Write.contents l.initial.out) (g.W.Write.contents l.out)
