use Rattle.std.proofs.Common.{◌≡◌, false, Some, sym, ap, ◌∙◌}
use Rattle.std.specs.Option.{is_some}
use Rattle.fhir_json.specs.Views.{text_seen}
use Rattle.fhir_cert_check.specs.Held.{has_text}
use Rattle.fhir_cert_check.specs.Rules.{held_expressions}
use Rattle.fhir_cert_check.proofs.Entailed.{entailed_by_own}
use Rattle.fhir_cert_check.proofs.held.Held.answers.Goals as goal

pub returns-else-is_some : goal.returns-else-is_some
returns-else-is_some c = λ own holds.
    let text = c.in-Some.text.now in
    let is : c.args.base.now.expression ≡ Some text = sym c.expression.ensures ∙ ap text_seen c.in-Some.is in
    let none : has_text c.args.self.now text ≡ false = ap is_some (sym c.get.ensures) ∙ sym c.is_some.ensures ∙ c.if-is_some.false in
    entailed_by_own c.args.self.now own c.args.base.now text c.args.expression c.entails.result is none c.requires
    (c.entails.ensures (held_expressions own) holds.known)
