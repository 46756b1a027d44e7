use Rattle.std.proofs.Common.{map, string_bytes}
use Rattle.fhir_compare_lines.proofs.trees.unusable_rows.Goals as goal

pub returns : goal.returns
returns c = (
  map string_bytes c.in_ok-rows.rows.items,
  map string_bytes c.in_ok-others.others.items,
  c.in_ok-rows.ensures,
  c.in_ok-others.ensures,
  c.in_ok-push_texts.ensures,
)
