use Rattle.std.proofs.Common.{append_assoc}
use Rattle.fhir_audit_lines.proofs.texts.narrowing_line.Goals as goal

pub returns : goal.returns
returns c =
    let said =
    rw (c.base_shown-base.ensures, c.as_str-pairs.ensures.value, c.in_ok-count.ensures, c.pair_count.ensures) at c.format.ensures.ok in
    simp append_assoc (simp append_assoc at said)
