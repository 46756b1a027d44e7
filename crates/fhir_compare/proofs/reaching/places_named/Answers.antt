use Rattle.fhir_package.specs.declared.kind.Kind.TheVariants.{StructureDefinition}
use Rattle.fhir_alike.specs.Naming.{place_named}
use Rattle.std.proofs.Common.{ℕ, List, Bor}
use Rattle.fhir_compare.proofs.Turns.{filter_turn}
use Rattle.fhir_compare.proofs.reaching.places_named.Goals as goal

pub loop-name-preserved : goal.loop-name-preserved
loop-name-preserved c =
    filter_turn (place_named StructureDefinition c.args.sides.old.now) (λ (n : Bor (List ℕ)). n.now) c.deref-name-items.result.now c.loop-name.name-index _
    c.loop-name.places.items c.push_place.new.places.items c.loop-name-test.true c.loop-name.invariant c.in_ok-push_place.ensures
