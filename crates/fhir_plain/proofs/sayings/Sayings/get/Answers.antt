use Rattle.std.proofs.Common.{ap, ◌∙◌}
use Rattle.fhir_json.specs.Views.{text_seen}
use Rattle.fhir_plain.specs.Kept.{kept_for}
use Rattle.fhir_plain.proofs.Keeping.{found-kept}
use Rattle.fhir_plain.proofs.sayings.Sayings.get.Goals as goal

pub returns : goal.returns
returns c =
    c.get.ensures
    ∙ found-kept c.self.inside.maps c.args.key.now (text_seen c.args.expression)
    ∙ ap (λ k. kept_for k c.args.key.now (text_seen c.args.expression)) c.self.view_is
