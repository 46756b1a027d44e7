use Rattle.std.proofs.Common.{◌∙◌}
use Rattle.std.proofs.lemmas.Result.{IfOk-weaker}
use Rattle.fhir_fp_values.specs.Views.{plain_of}
use Rattle.fhir_fp_values.proofs.Tables.{has_held}
use Rattle.fhir_fp_values.proofs.table.Table.has.Goals as goal

pub returns : goal.returns
returns c =
    IfOk-weaker c.has_under.result _ _
    (λ r is vs holds. is ∙ has_held c.args.self.now vs (plain_of c.args.value) c.as_str.result.now (c.as_str.ensures.value ∙ c.in_ok-key.ensures) holds)
    c.has_under.ensures
