use Rattle.std.proofs.Common.{◌∙◌}
use Rattle.fhir_conformance.specs.Views.{rule_name}
use Rattle.fhir_validator.proofs.Told.{judged_there}
use Rattle.fhir_validator.proofs.judging.Judge.rule_judgement.Goals as goal

pub returns : goal.returns
returns c = judged_there c.args.self.now c.args.pair (rule_name c.args.rule) c.args.node c.of.result (λ r. c.of.ensures r ∙ c.in_ok-holding.ensures.exact r)
