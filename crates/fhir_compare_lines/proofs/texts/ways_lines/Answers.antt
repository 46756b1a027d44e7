use Rattle.std.proofs.Common.{map, string_bytes, rules}
use Rattle.fhir_compare_lines.proofs.texts.ways_lines.Goals as goal

pub returns : goal.returns
returns c = record {
  narrowing = map string_bytes c.in_ok-narrowing.narrowing.items;
  are_narrowing = c.in_ok-narrowing.ensures;
  widening = map string_bytes c.in_ok-widening.widening.items;
  are_widening = c.in_ok-widening.ensures;
  lines_are = search rules;
}
