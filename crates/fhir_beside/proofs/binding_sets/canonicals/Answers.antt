use Rattle.std.proofs.Common.{refl, map, arith}
use Rattle.fhir_alike.specs.ValueSets.{kept_by}
use Rattle.fhir_alike.proofs.Rests.{from_turn, from_end}
use Rattle.fhir_beside.specs.Made.{canonicals_at, canonicals_from, canonicals}
use Rattle.fhir_beside.proofs.binding_sets.canonicals.Goals as goal

pub loop-place-preserved : goal.loop-place-preserved
loop-place-preserved c =
    from_turn (canonicals_at c.args.sides.old.now c.args.sides.new.now (kept_by c.args.sides.old.now c.args.sides.new.now c.args.sides.changes.now.changed.items))
    (canonicals_from c.args.sides.old.now c.args.sides.new.now (kept_by c.args.sides.old.now c.args.sides.new.now c.args.sides.changes.now.changed.items)) (λ k x xs. refl) (λ k. refl)
    c.args.sides.old.now.structure_definitions c.loop-place.place (map (λ c. c.now) c.loop-place.canonicals.items)
    (map (λ c. c.now) c.push_canonicals_at.new.canonicals.items) (canonicals c.args.sides.old.now c.args.sides.new.now (kept_by c.args.sides.old.now c.args.sides.new.now c.args.sides.changes.now.changed.items))
    (omega arith) c.loop-place.invariant c.in_ok-push_canonicals_at.ensures

pub returns : goal.returns
returns c =
    from_end (canonicals_at c.args.sides.old.now c.args.sides.new.now (kept_by c.args.sides.old.now c.args.sides.new.now c.args.sides.changes.now.changed.items))
    (canonicals_from c.args.sides.old.now c.args.sides.new.now (kept_by c.args.sides.old.now c.args.sides.new.now c.args.sides.changes.now.changed.items)) (λ k x xs. refl) (λ k. refl)
    c.args.sides.old.now.structure_definitions c.loop-place.place (map (λ c. c.now) c.loop-place.canonicals.items)
    (canonicals c.args.sides.old.now c.args.sides.new.now (kept_by c.args.sides.old.now c.args.sides.new.now c.args.sides.changes.now.changed.items)) (omega arith) c.loop-place.invariant
