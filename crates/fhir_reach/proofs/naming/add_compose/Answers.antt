use Rattle.std.proofs.Common.{List, ap, ◌∙◌}
use Rattle.std.specs.Prelude.{codes}
use Rattle.std.specs.List.{flat_map}
use Rattle.fhir_json.specs.Tree.{Tree}
use Rattle.fhir_json.specs.Views.{tree_of}
use Rattle.fhir_json.specs.Fields.{items_in}
use Rattle.fhir_reach.specs.Keys.{with_keys}
use Rattle.fhir_reach.specs.Naming.{include_keys}
use Rattle.fhir_reach.proofs.Adding.{both_added}
use Rattle.fhir_reach.proofs.naming.add_compose.Goals as goal

pub returns : goal.returns
returns c =
    let t = tree_of c.args.compose.now in
    both_added c.add_includes-2.result c.args.found.now c.add_includes.new.found c.add_includes-2.new.found
    (flat_map include_keys (items_in (codes "include") t)) (flat_map include_keys (items_in (codes "exclude") t))
    (c.in_ok-add_includes.ensures ∙ ap (λ (ts : List Tree). with_keys c.args.found.now (flat_map include_keys ts)) c.items_in.ensures)
    (rw (← c.items_in-2.ensures) c.add_includes-2.ensures)
