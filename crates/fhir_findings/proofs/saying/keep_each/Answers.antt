use Rattle.std.proofs.Common.{Some, None, refl}
use Rattle.fhir_findings.specs.Views.{wording_seen, texts_seen, firsts_seen}
use Rattle.fhir_findings.proofs.Said.{keeps_said}
use Rattle.fhir_findings.proofs.saying.keep_each.Goals as goal

pub returns-in-Some : goal.returns-in-Some
returns-in-Some c = λ before are.
    keeps_said c.args.sought.now.expressions c.args.sought.now.keys (firsts_seen c.args.told.now) (texts_seen c.args.found.now.items)
    (texts_seen c.keep_at.new.found.items) before (wording_seen c.args.wording.now) (Some c.in-Some.place) c.in-Some.ensures c.keep_at.ensures are

pub returns-in_default : goal.returns-in_default
returns-in_default c = λ before are.
    keeps_said c.args.sought.now.expressions c.args.sought.now.keys (firsts_seen c.args.told.now) (texts_seen c.args.found.now.items)
    (texts_seen c.args.found.now.items) before (wording_seen c.args.wording.now) None c.in_default.ensures refl are
