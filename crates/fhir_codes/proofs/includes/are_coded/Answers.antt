use Rattle.std.proofs.Common.{◌∙◌, sym}
use Rattle.std.proofs.lemmas.List.Folds.{list_all-map}
use Rattle.fhir_json.specs.Views.{tree_of}
use Rattle.fhir_codes.specs.CodeSystems.{is_coded}
use Rattle.fhir_codes.proofs.includes.are_coded.Goals as goal

pub returns : goal.returns
returns c = c.each_is_coded.ensures ∙ sym (list_all-map is_coded tree_of c.args.items.now)
