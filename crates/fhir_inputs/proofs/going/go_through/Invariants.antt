use Rattle.fhir_inputs.proofs.Gone.{AreGone}
use Rattle.fhir_inputs.proofs.going.go_through.Given as goal

abbrev pub invariant-loop-place : goal.invariant-loop-place
invariant-loop-place g l =
    AreGone g.T.Service.answers g.T.Teller.begins g.T.Teller.stops (g.I.Inputs.inputs l.inputs) l.place l.fn.teller l.teller
    (g.W.Write.contents l.fn.out) (g.W.Write.contents l.out)
