use Rattle.std.proofs.Common.{◌&&◌, sym, ap, ◌∙◌}
use Rattle.fhir_entail.specs.Known.{joined_entailed}
use Rattle.fhir_entail.proofs.Knowing.{weighs_joined}
use Rattle.fhir_entail.proofs.known.Known.join.Goals as goal

pub returns-then-left : goal.returns-then-left
returns-then-left c = λ l r is first second.
    weighs_joined c.args.self.now c.args.operator l r c.args.number c.args.left c.args.right c.args.right.is_total c.is_joined_entailed.result
    c.requires is first second (ap (λ b. b && c.args.right.is_total) c.if-left.true)
    (c.is_joined_entailed.ensures ∙ ap (λ b. joined_entailed c.args.operator b c.args.left c.args.right) c.is_listed-is_listed.ensures)

pub returns-else-left : goal.returns-else-left
returns-else-left c = λ l r is first second.
    weighs_joined c.args.self.now c.args.operator l r c.args.number c.args.left c.args.right c.args.left.is_total c.is_joined_entailed.result
    c.requires is first second (ap (λ b. b && c.args.right.is_total) c.if-left.false ∙ sym c.if-left.false)
    (c.is_joined_entailed.ensures ∙ ap (λ b. joined_entailed c.args.operator b c.args.left c.args.right) c.is_listed-is_listed.ensures)
