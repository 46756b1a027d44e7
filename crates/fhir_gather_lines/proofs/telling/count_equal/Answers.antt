use Rattle.std.proofs.Common.{◌∙◌}
use Rattle.fhir_gather_lines.proofs.Equals.{count_seen}
use Rattle.fhir_gather_lines.proofs.telling.count_equal.Goals as goal

pub returns : goal.returns
returns c = c.count_told.ensures ∙ count_seen c.args.dropped.now
