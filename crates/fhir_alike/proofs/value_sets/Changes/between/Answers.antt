use Rattle.std.proofs.Common.{rules}
use Rattle.fhir_alike.specs.ValueSets.{AreChanges}
use Rattle.fhir_alike.proofs.Kept.{changes_tell}
use Rattle.fhir_alike.proofs.value_sets.Changes.between.Goals as goal

pub returns-clause-tells : goal.returns-clause-tells
returns-clause-tells c =
    let changes : AreChanges c.args.old.now c.args.new.now c.in_ok-changed.changed.items = search rules in
    changes_tell c.args.old.now c.args.new.now c.in_ok-changed.changed.items changes
