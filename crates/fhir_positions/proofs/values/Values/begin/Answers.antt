use Rattle.fhir_positions.proofs.Standing.{one_more}
use Rattle.fhir_positions.proofs.values.Values.begin.Goals as goal

pub returns-clause-stand : goal.returns-clause-stand
returns-clause-stand c = λ bytes there h.
    let settled = c.in_ok-settle.ensures.stand bytes h in
    (one_more bytes c.settle.new.self.found.items c.push.new.self.items c.args.at c.in_ok-push.ensures.items settled.0 there, settled.1)
