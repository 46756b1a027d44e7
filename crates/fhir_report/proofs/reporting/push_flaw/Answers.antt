use Rattle.std.proofs.Common.{◌≡◌, [], ◌∷◌, ◌++◌, rules}
use Rattle.fhir_report.proofs.Told.{one_flaw_more}
use Rattle.fhir_report.proofs.reporting.push_flaw.Goals as goal

pub returns : goal.returns
returns c all =
    let more : c.push.new.self.items ≡ c.args.lines.now.items ++ c.in_ok-flaw_line.field-0 ∷ [] = search rules in
    one_flaw_more c.args.file.now c.args.lines.now.items c.push.new.self.items c.in_ok-flaw_line.field-0 more c.in_ok-flaw_line.ensures all
