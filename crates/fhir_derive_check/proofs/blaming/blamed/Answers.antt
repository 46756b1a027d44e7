use Rattle.std.proofs.Common.{sym}
use Rattle.fhir_cert_check.specs.PairSet.{has_pair}
use Rattle.fhir_derive_check.proofs.Blamed.{is-blamed, none-blamed}
use Rattle.fhir_derive_check.proofs.blaming.blamed.Goals as goal

pub returns : goal.returns
returns c =
    let found = c.args.found.now in
    is-blamed c.args.schema.now c.args.root found.order.items c.requires.discovery (has_pair found.live) c.requires.settled c.in_ok-way.way.order.items c.in_ok-way.ensures.order
    c.in_ok-way.way.live c.in_ok-way.ensures.live c.args.wrongs.now c.requires.all c.in-Some.wrong (sym c.in-Some.ensures)

pub unreachable-requires : goal.unreachable-requires
unreachable-requires c =
    let found = c.args.found.now in
    none-blamed c.args.schema.now c.args.root found.order.items c.requires.discovery (has_pair found.live) c.requires.settled c.in_ok-way.way.order.items c.in_ok-way.ensures.order
    c.in_ok-way.way.live c.in_ok-way.ensures.live c.args.wrongs.now c.requires.all c.more_pairs.ensures c.requires.fallen (sym c.in-None.ensures)
