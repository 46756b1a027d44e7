use Rattle.fhir_positions.proofs.values.Values.quote.Goals as goal

pub returns-clause-stand : goal.returns-clause-stand
returns-clause-stand c = λ bytes there h. let settled = c.in_ok-settle.ensures.stand bytes h in (settled.0, there)
