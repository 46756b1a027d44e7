use Rattle.std.specs.Option.{option_map}
use Rattle.fhir_compare_lines.specs.Views.{why_seen}
use Rattle.fhir_compare_lines.proofs.texts.way_lines.Goals as goal

pub returns : goal.returns
returns c = (option_map why_seen c.in_ok-why.why, c.in_ok-why.ensures, c.in_ok-lines.ensures)
