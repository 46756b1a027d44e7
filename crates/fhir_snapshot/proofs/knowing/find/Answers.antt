use Rattle.std.proofs.Common.{subst}
use Rattle.fhir_asking.specs.Asking.{NeedsItself, Settles}
use Rattle.fhir_snapshot.specs.Chains.{ending}
use Rattle.fhir_snapshot.proofs.knowing.find.Goals as goal

pub learn_cycle-requires-clause-cycle : goal.learn_cycle-requires-clause-cycle
learn_cycle-requires-clause-cycle c =
    let needs : NeedsItself (ending c.of.result) c.args.url.now =
    subst (λ b. Settles (ending c.of.result) c.settle.new.table c.args.url.now b) c.if-not-branch.true c.in_ok-settle.ensures.settles in
    subst (λ q. NeedsItself (ending q) c.args.url.now) c.of.ensures needs
