use Rattle.std.proofs.Common.{◌++◌, ◌∙◌, ap}
use Rattle.fhir_json.specs.Tree.{Text}
use Rattle.fhir_marked_json.specs.Views.{told}
use Rattle.fhir_marked_json.proofs.Listings.{one_more}
use Rattle.fhir_marked_json.proofs.pieces.put.Goals as goal

pub returns : goal.returns
returns c =
    ap told c.in_ok-push.ensures.items
    ∙ one_more c.args.into.now.items _
    ∙ ap (λ (t : Text). told c.args.into.now.items ++ t) c.in_ok-text.ensures.ok
