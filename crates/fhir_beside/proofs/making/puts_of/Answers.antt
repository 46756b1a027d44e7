use Rattle.fhir_alike.specs.ValueSets.{kept_by}
use Rattle.fhir_beside.proofs.making.puts_of.Goals as goal

pub returns : goal.returns
returns c = record {
  keeps = kept_by c.args.old.now c.args.new.now c.in_ok-changes.changes.changed.items;
  tells_kept = c.in_ok-changes.ensures.tells;
  profiles_are = c.in_ok-profiles.ensures;
  are_sets = c.in_ok-sets.ensures;
  types_are = c.in_ok-types.ensures;
}
