use Rattle.fhir_positions.proofs.Standing.{one_more, one_there}
use Rattle.fhir_positions.proofs.values.Values.settle.Goals as goal

pub returns-in_ok-push-in-Some-clause-stand : goal.returns-in_ok-push-in-Some-clause-stand
returns-in_ok-push-in-Some-clause-stand c = λ bytes h. (
  one_more bytes c.args.self.now.found.items c.push.new.self.items c.in-Some.at c.in_ok-push-in-Some.ensures.items h.0
      (one_there bytes c.args.self.now.string c.in-Some.at c.in-Some.is h.1),
  tt,
)
