use Rattle.std.proofs.Common.{[], map, ap, if◌then◌else◌}
use Rattle.std.specs.List.{slice_get, filter_map}
use Rattle.fhir_alike.specs.ValueSets.{kept_by}
use Rattle.fhir_beside.specs.Made.{moved_set, elements_of, canonicals_at}
use Rattle.fhir_beside.proofs.Passed.{nothing_more}
use Rattle.fhir_beside.proofs.binding_sets.push_canonicals_at.Goals as goal

pub returns-in-None : goal.returns-in-None
returns-in-None c =
    nothing_more c.args.sides.old.now c.args.sides.new.now c.args.place
    (canonicals_at c.args.sides.old.now c.args.sides.new.now (kept_by c.args.sides.old.now c.args.sides.new.now c.args.sides.changes.now.changed.items) c.args.place)
    (λ e no. ap (λ b. if b then filter_map (moved_set (kept_by c.args.sides.old.now c.args.sides.new.now c.args.sides.changes.now.changed.items)) (elements_of c.args.place e) else []) no)
    (slice_get c.args.sides.old.now.structure_definitions c.args.place) (map (λ c. c.now) c.args.canonicals.now.items) c.in-None.ensures
