use Rattle.std.proofs.Common.{[], ◌++◌, ap, if◌then◌else◌}
use Rattle.std.specs.List.{slice_get}
use Rattle.fhir_alike.specs.ValueSets.{kept_by}
use Rattle.fhir_beside.specs.Made.{moved, elements_of, profile_put}
use Rattle.fhir_beside.specs.Views.{entries_seen}
use Rattle.fhir_beside.proofs.Passed.{nothing_more}
use Rattle.fhir_beside.proofs.Sets.{entry_of}
use Rattle.fhir_beside.proofs.putting.put_profile_at.Goals as goal

pub returns-in-None : goal.returns-in-None
returns-in-None c =
    nothing_more c.args.sides.old.now c.args.sides.new.now c.args.place
    (profile_put c.args.sides.old.now c.args.sides.new.now (kept_by c.args.sides.old.now c.args.sides.new.now c.args.sides.changes.now.changed.items) c.args.sides.mark.now c.args.place)
    (λ e no. ap
    (λ b. if b
    then entry_of (c.args.sides.mark.now ++ e.0) (moved (kept_by c.args.sides.old.now c.args.sides.new.now c.args.sides.changes.now.changed.items) c.args.sides.mark.now e.0 (elements_of c.args.place e) e.1)
    else [])
    no)
    (slice_get c.args.sides.old.now.structure_definitions c.args.place) (entries_seen c.args.entries.now.items) c.in-None.ensures
