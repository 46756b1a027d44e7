use Rattle.std.proofs.Common.{ap, ◌∙◌}
use Rattle.std.specs.Option.{option_or}
use Rattle.fhir_json.specs.Views.{tree_of}
use Rattle.fhir_elements.specs.Causes.{blamed_reason}
use Rattle.fhir_definition.specs.Cases.{reasons_of}
use Rattle.fhir_definition.proofs.OwnFault.{own_found}
use Rattle.fhir_definition.proofs.blames.first_blame.Goals as goal

pub returns-clause-reason : goal.returns-clause-reason
returns-clause-reason c =
    let two = c.or-2.ensures ∙ ap (λ o. option_or o c.first_of-2.result) c.or.ensures in
    let three = c.or-3.ensures ∙ ap (λ o. option_or o c.first_of-3.result) two in
    ap blamed_reason (c.or-4.ensures ∙ ap (λ o. option_or o c.blame_of_ids.result) three)
    ∙ own_found c.args.url.now (tree_of c.args.json.now) c.args.snapshot.now c.elements.result.now (reasons_of c.args.causes.now)
    _ _ _ _ _ c.elements.ensures c.requires.reasons c.blame_of_fields.ensures.reason c.first_of.ensures.reason
    c.first_of-2.ensures.reason c.first_of-3.ensures.reason c.blame_of_ids.ensures.reason
