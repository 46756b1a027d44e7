use Rattle.std.proofs.Common.{sym, subst}
use Rattle.fhir_validator.specs.Judging.{IsRight}
use Rattle.fhir_validator.proofs.Pairs.{all_put}
use Rattle.fhir_validator.proofs.judging.Judge.put.Goals as goal

pub invariant_of-self-2 : goal.invariant_of-self-2
invariant_of-self-2 c =
    all_put (IsRight c.self.inside.layout) c.self.inside.judgements c.insert.new.self c.args.pair c.args.judgement c.in_ok-insert.ensures.updates
    (subst (λ layout. IsRight layout c.args.pair c.args.judgement) (sym c.self.view_is) c.requires) c.self.invariant
