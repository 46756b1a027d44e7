use Rattle.fhir_fp_syntax.specs.Expression.{expression_of}
use Rattle.fhir_entail.specs.declared.known.Known.{Known}
use Rattle.fhir_entail.proofs.Knowing.{put_knows}
use Rattle.fhir_entail.proofs.known.Known.put_whole.Goals as goal

pub returns : goal.returns
returns c = λ known knows.
    let new : Known = record { numbers = c.put.new.self; listed = c.insert.new.self } in
    put_knows c.args.self.now new (expression_of c.args.expression.now) c.in_ok-number.number c.in_ok-number.ensures.extends c.in_ok-number.ensures.put
    c.in_ok-insert.ensures.updates.0 c.requires c.in_ok-number.ensures.apart known knows
