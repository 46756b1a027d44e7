use Rattle.std.proofs.Common.{◌≡◌, ℕ, Vec, Global, string_bytes, ap, sym}
use Rattle.fhir_compare_engine.proofs.Promised.{told_by, compared_as}
use Rattle.fhir_compare_engine.proofs.running.reply_by.Goals as goal

pub returns : goal.returns
returns c =
    let sides = c.sides_of-sides.ensures in
    let sources = c.sources_of-sources.ensures in
    let request = c.args.request.now in
    let bytes : string_bytes c.in_ok-text.text ≡ c.into_bytes-out.result.items =
    sym (ap (λ (v : Vec ℕ Global). v.items) c.into_bytes-out.ensures.value) in
    told_by request.audience request.format _ _ _ _ c.in_ok-compared.compared.items c.part_of-part.result _ (string_bytes c.in_ok-text.text)
    c.into_bytes-out.result.items (compared_as _ _ _ _ _ _ _ sides.old sides.new sides.mark c.in_ok-compared.ensures)
    (rw c.as_slice.ensures.value at c.part_of-part.ensures) c.status_of-status.ensures
    (rw (sources.old, sources.new, sources.types, c.as_slice-2.ensures.value) at c.in_ok-text.ensures) bytes
