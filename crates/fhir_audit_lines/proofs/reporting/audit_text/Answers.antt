use Rattle.std.proofs.Common.{map, string_bytes}
use Rattle.fhir_audit_lines.specs.Report.{last_line}
use Rattle.fhir_audit_lines.proofs.Told.{all_told}
use Rattle.fhir_audit_lines.proofs.reporting.audit_text.Goals as goal

pub returns : goal.returns
returns c =
    let on_profiles = map string_bytes c.in_ok-lines.lines.items in
    let others = map string_bytes c.in_ok-others.others.items in
    let all = map string_bytes c.in_ok-all.all.items in
    record {
      on_profiles = on_profiles;
      are_told = c.in_ok-lines.ensures;
      on_certificates = others;
      are_held = c.in_ok-others.ensures;
      written =
          all_told (string_bytes c.in_ok-text.text) all on_profiles others (string_bytes c.in_ok-last.last) (last_line c.args.format c.args.audited.now)
          (rw c.as_slice.ensures.value at c.in_ok-text.ensures) c.in_ok-all.ensures c.in_ok-last.ensures;
    }
