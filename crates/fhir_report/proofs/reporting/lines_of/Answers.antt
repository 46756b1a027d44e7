use Rattle.std.proofs.Common.{arith}
use Rattle.fhir_report.proofs.Told.{next, last}
use Rattle.fhir_report.proofs.reporting.lines_of.Goals as goal

pub loop-finding-preserved : goal.loop-finding-preserved
loop-finding-preserved c =
    next c.args.lacking.now c.loop-finding.lines.items c.push_finding.new.lines.items c.args.found.now c.loop-finding.finding-index c.finding-item.result (omega arith)
    c.finding-item.is c.loop-finding.invariant c.in_ok-push_finding.ensures

pub returns : goal.returns
returns c = last c.args.lacking.now c.loop-finding.lines.items c.args.found.now c.loop-finding.finding-index (omega arith) c.loop-finding.invariant
