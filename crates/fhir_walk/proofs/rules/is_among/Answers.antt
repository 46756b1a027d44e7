use Rattle.fhir_walk.proofs.Settled.{told_by}
use Rattle.fhir_walk.proofs.rules.is_among.Goals as goal

pub returns : goal.returns
returns c = λ is here x each.
    told_by c.args.schema.now here x c.args.known c.args.node c.args.position c.in-Some.one.now c.in-Some-constraint_of.other.now
    c.in-Some.ensures c.in-Some-constraint_of.ensures (c.is_as_strict.ensures.must is) (c.is_as_strict.ensures.same is) each
