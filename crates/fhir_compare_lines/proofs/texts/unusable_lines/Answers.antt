use Rattle.std.proofs.Common.{map, string_bytes}
use Rattle.fhir_compare_lines.proofs.texts.unusable_lines.Goals as goal

pub returns : goal.returns
returns c = (
  map string_bytes c.in_ok-lines.lines.items,
  map string_bytes c.in_ok-others.others.items,
  c.in_ok-lines.ensures,
  c.in_ok-others.ensures,
  c.in_ok-push_texts.ensures,
)
