use Rattle.std.proofs.Common.{ap, ◌∙◌}
use Rattle.fhir_json.specs.Views.{text_seen}
use Rattle.fhir_targets.proofs.chains.code_at.Goals as goal

pub returns : goal.returns
returns c = ap text_seen (c.copied.ensures ∙ c.get.ensures.value)
