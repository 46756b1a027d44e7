use Rattle.std.proofs.Common.{List, [], ◌++◌, ap, ◌∙◌}
use Rattle.std.specs.Prelude.{codes}
use Rattle.std.specs.List.{flat_map}
use Rattle.std.specs.Option.{option_map_or}
use Rattle.fhir_json.specs.Tree.{Text, Tree}
use Rattle.fhir_json.specs.Views.{tree_of}
use Rattle.fhir_json.specs.Fields.{field, text_at, items_in}
use Rattle.fhir_reach.specs.Keys.{with_keys}
use Rattle.fhir_reach.specs.Naming.{type_keys, content_keys, binding_keys}
use Rattle.fhir_reach.proofs.Adding.{both_added}
use Rattle.fhir_reach.proofs.naming.add_element.Goals as goal

pub returns : goal.returns
returns c =
    let t = tree_of c.args.element.now in
    let types = flat_map type_keys (items_in (codes "type") t) in
    let content = content_keys (text_at (codes "contentReference") t) in
    let binding = option_map_or binding_keys (field (codes "binding") t) [] in
    both_added c.add_binding.result c.args.found.now c.add_types.new.found c.add_binding.new.found types (content ++ binding)
    (c.in_ok-add_types.ensures ∙ ap (λ (ts : List Tree). with_keys c.args.found.now (flat_map type_keys ts)) c.items_in.ensures)
    (both_added c.add_binding.result c.add_types.new.found c.add_content.new.found c.add_binding.new.found content binding
    (c.in_ok-add_content.ensures ∙ ap (λ (text : Text). with_keys c.add_types.new.found (content_keys text)) c.text_at.ensures)
    (rw (← c.field.ensures) c.add_binding.ensures))
