use Rattle.std.proofs.Common.{ap, ◌∙◌}
use Rattle.fhir_fp_syntax.specs.Expression.{expression_of}
use Rattle.fhir_entail.specs.Known.{is_found}
use Rattle.fhir_entail.proofs.Knowing.{whole_entailed}
use Rattle.fhir_entail.proofs.known.Known.weigh_whole.Goals as goal

pub returns : goal.returns
returns c = record {
  number = c.of-number.ensures;
  total = c.total.ensures;
  entailed = λ known knows.
      c.is_listed.ensures ∙ ap (is_found c.args.self.now) c.of-number.ensures
      ∙ whole_entailed c.args.self.now (expression_of c.args.expression.now) c.requires known knows;
}
