use Rattle.std.proofs.Common.{take}
use Rattle.std.specs.List.{flat_map}
use Rattle.fhir_plain.specs.Sayings.{constraints_in}
use Rattle.fhir_plain.proofs.Hearing.{more_definitions}
use Rattle.fhir_plain.proofs.sayings.Maps.of.Goals as goal

pub loop-place-preserved : goal.loop-place-preserved
loop-place-preserved c =
    let loop = c.loop-place in
    let ds = c.args.package.now.structure_definitions in
    more_definitions (λ e. constraints_in e.1) c.add_at.new.self ds loop.place
    (c.in_ok-add_at.ensures (flat_map (λ e. constraints_in e.1) (take loop.place ds)) loop.invariant)
