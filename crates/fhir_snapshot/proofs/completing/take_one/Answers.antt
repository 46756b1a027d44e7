use Rattle.std.proofs.Common.{rules, ◌≡◌, true}
use Rattle.fhir_json.specs.Views.{tree_of}
use Rattle.fhir_inheritance.specs.Sources.{brings_snapshot}
use Rattle.fhir_snapshot.proofs.Planned.{brought_planned}
use Rattle.fhir_snapshot.proofs.completing.take_one.Goals as goal

pub returns-then-brings_snapshot-clause-plans : goal.returns-then-brings_snapshot-clause-plans
returns-then-brings_snapshot-clause-plans c =
    let brings : brings_snapshot (tree_of c.args.definition.now) ≡ true = search rules in
    brought_planned c.args.sources.now c.args.place c.args.url.now (tree_of c.args.definition.now) c.args.plan.now brings
