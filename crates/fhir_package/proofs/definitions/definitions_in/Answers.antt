use Rattle.std.proofs.Common.{List, ◌++◌, ap, ◌∙◌}
use Rattle.fhir_json.specs.Views.{tree_of}
use Rattle.fhir_package.specs.Packing.{Definition, held_within, definitions_in}
use Rattle.fhir_package.proofs.definitions.definitions_in.Goals as goal

pub returns : goal.returns
unfolding definitions_in
returns c = c.in_ok-push_held.ensures ∙ ap (λ (ds : List Definition). ds ++ held_within 128 (tree_of c.args.json)) c.new-all.ensures.items
