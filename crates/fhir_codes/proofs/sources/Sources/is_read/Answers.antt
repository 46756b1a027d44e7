use Rattle.std.proofs.Common.{◌∙◌, sym}
use Rattle.fhir_json.specs.Views.{tree_of}
use Rattle.fhir_codes.specs.Tables.{found}
use Rattle.fhir_codes.proofs.Parts.{read_parts, not_composed}
use Rattle.fhir_codes.proofs.sources.Sources.is_read.Goals as goal

pub returns-then-has_compose : goal.returns-then-has_compose
returns-then-has_compose c =
    c.all_read.ensures
    ∙ read_parts c.args.self.now.definitions (found c.args.self.now) (tree_of c.args.json.now) c.includes.result.now c.excludes.result.now
    (sym c.has_compose.ensures ∙ c.if-has_compose.true) c.includes.ensures c.excludes.ensures

pub returns-else-has_compose : goal.returns-else-has_compose
returns-else-has_compose c =
    c.if-has_compose.false
    ∙ not_composed c.args.self.now.definitions (found c.args.self.now) (tree_of c.args.json.now) (sym c.has_compose.ensures ∙ c.if-has_compose.false)
