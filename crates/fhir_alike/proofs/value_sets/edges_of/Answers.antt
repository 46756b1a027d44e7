use Rattle.std.proofs.Common.{◌∷◌, [], ap, ◌∙◌, arith}
use Rattle.std.proofs.lemmas.List.{map-append}
use Rattle.fhir_definition.specs.Views.{lists_in}
use Rattle.fhir_alike.specs.ValueSets.{leads_to, set_edges}
use Rattle.fhir_alike.proofs.Rests.{map_turn}
use Rattle.fhir_alike.proofs.value_sets.edges_of.Goals as goal

pub loop-place-preserved : goal.loop-place-preserved
loop-place-preserved c =
    map_turn (λ e. leads_to c.args.old.now e.1) [] c.args.old.now.value_sets c.loop-place.place
    (lists_in c.loop-place.edges.items) (lists_in c.push.new.self.items) (set_edges c.args.old.now) c.in_ok-leads.leads.items
    (omega arith) c.loop-place.invariant c.in_ok-leads.ensures
    (ap lists_in c.in_ok-push.ensures.items ∙ map-append (λ v. v.items) c.loop-place.edges.items (c.in_ok-leads.leads ∷ []))
