use Rattle.std.proofs.Common.{[], Option, ap, ◌∙◌}
use Rattle.std.specs.Option.{option_map_or}
use Rattle.fhir_json.specs.Tree.{Tree}
use Rattle.fhir_package.specs.declared.kind.Kind.TheVariants.{StructureDefinition, ValueSet}
use Rattle.fhir_package.specs.Definitions.{at_url}
use Rattle.fhir_reach.specs.Keys.{with_keys}
use Rattle.fhir_reach.specs.Naming.{structure_keys, value_set_keys}
use Rattle.fhir_reach.proofs.Adding.{both_added}
use Rattle.fhir_reach.proofs.reaching.visit_url.Goals as goal

pub returns : goal.returns
returns c =
    let p = c.args.«package».now in
    both_added c.visit_value_set.result c.args.found.now c.visit_structure.new.found c.visit_value_set.new.found
    (option_map_or structure_keys (at_url StructureDefinition c.args.url.now p) []) (option_map_or value_set_keys (at_url ValueSet c.args.url.now p) [])
    (c.in_ok-visit_structure.ensures ∙ ap (λ (o : Option Tree). with_keys c.args.found.now (option_map_or structure_keys o [])) c.at_url.ensures)
    (rw (← c.at_url-2.ensures) c.visit_value_set.ensures)
