use Rattle.std.proofs.Common.{◌∙◌}
use Rattle.fhir_targets.proofs.Sets.{any_key}
use Rattle.fhir_targets.proofs.texts.has_text.Goals as goal

pub returns : goal.returns
returns c = c.contains.ensures ∙ any_key c.args.text.now c.args.set.now.keys
