use Rattle.std.proofs.Common.{ap, ◌∙◌, not}
use Rattle.fhir_json.specs.Views.{tree_seen}
use Rattle.fhir_instance.specs.Items.{type_of, json_of, has_kids}
use Rattle.fhir_instance.specs.View.{item_of}
use Rattle.fhir_conformance.proofs.Seen.{has_kids_seen, same_seen}
use Rattle.fhir_conformance.proofs.judging.view_of.Goals as goal

pub returns : goal.returns
returns c =
    let x = item_of c.args.item.now in
    same_seen c.code.result.now (type_of x) (tree_seen c.json.result) (json_of x) (not c.is_empty.result) (has_kids x)
    c.code.ensures c.json.ensures (ap not c.is_empty.ensures ∙ has_kids_seen x c.kids.result.now c.kids.ensures)
