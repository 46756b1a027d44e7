use Rattle.std.proofs.Common.{refl, arith}
use Rattle.fhir_json.specs.Views.{text_seen}
use Rattle.fhir_package.specs.Definitions.{of_kind}
use Rattle.fhir_alike.proofs.Differs.{taken_turn, taken_all}
use Rattle.fhir_alike.proofs.differing.Differing.take_new.Goals as goal

pub loop-place-init : goal.loop-place-init
loop-place-init c = λ seen h. (seen, h, refl)

pub loop-place-preserved : goal.loop-place-preserved
loop-place-preserved c = λ seen h.
    taken_turn c.args.kind c.args.old.now c.args.new.now (of_kind c.args.kind c.args.new.now) c.loop-place.place seen c.loop-place.self.urls
    c.take_if.new.self.urls (text_seen c.url_at.result) (omega arith) c.url_at.ensures (λ taken k. c.in_ok-take_if.ensures taken k)
    (c.loop-place.invariant seen h)

pub returns : goal.returns
returns c = λ seen h.
    taken_all c.args.kind c.args.old.now c.args.new.now (of_kind c.args.kind c.args.new.now) c.loop-place.place seen c.loop-place.self.urls
    (omega arith) (c.loop-place.invariant seen h)
