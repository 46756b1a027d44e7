use Rattle.std.proofs.Common.{◌≤◌, length, sym, ◌∙◌, arith}
use Rattle.std.proofs.lemmas.List.{take_all, length-take}
use Rattle.fhir_audit_lines.proofs.naming.first_bytes.Goals as goal

pub slice_bounds-result-end : goal.slice_bounds-result-end
slice_bounds-result-end c = omega (arith, length-take 150 c.as_bytes-bytes.result.now)

pub returns-then-bytes-le-URL_BYTES : goal.returns-then-bytes-le-URL_BYTES
returns-then-bytes-le-URL_BYTES c =
    let short : length c.args.url.now ≤ 150 = omega (arith, c.as_bytes-bytes.ensures.len) in
    c.as_bytes-bytes.ensures.value ∙ sym (take_all 150 c.args.url.now short)
