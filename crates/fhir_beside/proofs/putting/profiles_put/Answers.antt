use Rattle.std.proofs.Common.{refl, arith}
use Rattle.fhir_alike.specs.ValueSets.{kept_by}
use Rattle.fhir_alike.proofs.Rests.{from_turn, from_end}
use Rattle.fhir_beside.specs.Made.{profile_put, profiles_from, profiles_put}
use Rattle.fhir_beside.specs.Views.{entries_seen}
use Rattle.fhir_beside.proofs.putting.profiles_put.Goals as goal

pub loop-place-preserved : goal.loop-place-preserved
loop-place-preserved c =
    from_turn (profile_put c.args.sides.old.now c.args.sides.new.now (kept_by c.args.sides.old.now c.args.sides.new.now c.args.sides.changes.now.changed.items) c.args.sides.mark.now)
    (profiles_from c.args.sides.old.now c.args.sides.new.now (kept_by c.args.sides.old.now c.args.sides.new.now c.args.sides.changes.now.changed.items) c.args.sides.mark.now) (λ k x xs. refl) (λ k. refl)
    c.args.sides.old.now.structure_definitions c.loop-place.place (entries_seen c.loop-place.entries.items)
    (entries_seen c.put_profile_at.new.entries.items) (profiles_put c.args.sides.old.now c.args.sides.new.now (kept_by c.args.sides.old.now c.args.sides.new.now c.args.sides.changes.now.changed.items) c.args.sides.mark.now)
    (omega arith) c.loop-place.invariant c.in_ok-put_profile_at.ensures

pub returns : goal.returns
returns c =
    from_end (profile_put c.args.sides.old.now c.args.sides.new.now (kept_by c.args.sides.old.now c.args.sides.new.now c.args.sides.changes.now.changed.items) c.args.sides.mark.now)
    (profiles_from c.args.sides.old.now c.args.sides.new.now (kept_by c.args.sides.old.now c.args.sides.new.now c.args.sides.changes.now.changed.items) c.args.sides.mark.now) (λ k x xs. refl) (λ k. refl)
    c.args.sides.old.now.structure_definitions c.loop-place.place (entries_seen c.loop-place.entries.items)
    (profiles_put c.args.sides.old.now c.args.sides.new.now (kept_by c.args.sides.old.now c.args.sides.new.now c.args.sides.changes.now.changed.items) c.args.sides.mark.now) (omega arith) c.loop-place.invariant
