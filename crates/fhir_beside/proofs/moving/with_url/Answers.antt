use Rattle.std.proofs.Common.{◌≡◌, IfOk, subst, sym, ◌∙◌}
use Rattle.fhir_json.specs.Views.{tree_of}
use Rattle.fhir_beside.proofs.Renamed.{of_object, of_other}
use Rattle.fhir_beside.proofs.moving.with_url.Goals as goal

pub returns-then-is_object : goal.returns-then-is_object
returns-then-is_object c =
    subst (λ x. IfOk c.renamed.result (λ j. tree_of j ≡ x))
    (of_object c.args.url.now (tree_of c.args.json) (sym c.is_object.ensures ∙ c.if-is_object.true)) c.renamed.ensures

pub returns-else-is_object : goal.returns-else-is_object
returns-else-is_object c = of_other c.args.url.now (tree_of c.args.json) (sym c.is_object.ensures ∙ c.if-is_object.false)
