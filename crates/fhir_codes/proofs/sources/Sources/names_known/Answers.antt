use Rattle.std.proofs.Common.{◌∙◌}
use Rattle.fhir_json.specs.Views.{tree_of}
use Rattle.fhir_codes.specs.Placing.{is_known}
use Rattle.fhir_codes.specs.Tables.{found}
use Rattle.fhir_codes.proofs.Parts.{all_named}
use Rattle.fhir_codes.proofs.sources.Sources.names_known.Goals as goal

pub returns : goal.returns
returns c =
    c.texts_known.ensures
    ∙ all_named (is_known c.args.self.now.definitions (found c.args.self.now)) (tree_of c.args.include.now) c.items_in.result.now c.items_in.ensures
