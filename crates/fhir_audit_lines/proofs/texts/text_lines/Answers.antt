use Rattle.std.proofs.Common.{map, string_bytes, rules}
use Rattle.fhir_audit_lines.proofs.texts.text_lines.Goals as goal

pub returns : goal.returns
returns c = record {
  head = string_bytes c.in_ok-head.head;
  is_head = c.in_ok-head.ensures;
  details = map string_bytes c.in_ok-below.below.items;
  are_details = c.in_ok-below.ensures;
  lines_are = search rules;
}
