use Rattle.fhir_cert_check.proofs.Entailed.{held_more}
use Rattle.fhir_cert_check.proofs.held.Held.put_held.Goals as goal

pub returns : goal.returns
returns c =
    let kept = c.in_ok-put_text.ensures in
    let put = c.put_expression.ensures in
    held_more c.put_expression.result c.args.self.now c.put_text.new.self c.put_expression.new.self c.args.constraint.now c.args.expression
    c.requires.held c.requires.read kept.known kept.texts kept.keys put.texts put.keys put.known
