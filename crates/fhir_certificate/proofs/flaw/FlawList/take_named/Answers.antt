use Rattle.std.proofs.Common.{ap, ◌∙◌}
use Rattle.std.proofs.lemmas.Result.{on_ok_weaker}
use Rattle.fhir_certificate.specs.Reading.{written_behind}
use Rattle.fhir_certificate.proofs.Flawed.{known_named}
use Rattle.fhir_certificate.proofs.flaw.FlawList.take_named.Goals as goal

pub returns-clause-none : goal.returns-clause-none
returns-clause-none c = λ w e.
    on_ok_weaker c.take_behind.result (λ k. known_named c.args.schema.now c.args.text.now w _ _ e k)
    (c.take_behind.ensures.none w (ap (λ ds. written_behind ds c.args.text.now) c.no_numbers-definitions.ensures ∙ e))
