use Rattle.std.proofs.Common.{[], subst, sym}
use Rattle.std.specs.Map.{keys_of}
use Rattle.fhir_package.specs.Definitions.{of_kind}
use Rattle.fhir_alike.specs.Differing.{DifferAmong}
use Rattle.fhir_alike.proofs.Differs.{differ_none, differ_all}
use Rattle.fhir_alike.proofs.differing.Differing.of.Goals as goal

pub returns : goal.returns
returns c =
    let none = subst (DifferAmong c.args.kind c.args.old.now c.args.new.now []) (sym c.new.ensures) (differ_none c.args.kind c.args.old.now c.args.new.now) in
    let first = c.in_ok-take_old.ensures [] none in
    differ_all c.args.kind c.args.old.now c.args.new.now c.take_new.new.self.urls
    (c.in_ok-take_new.ensures (keys_of (of_kind c.args.kind c.args.old.now)) first)
