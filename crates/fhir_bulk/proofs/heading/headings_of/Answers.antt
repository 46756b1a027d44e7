use Rattle.std.proofs.Common.{[], map}
use Rattle.fhir_bulk.specs.Running.{headings_from}
use Rattle.fhir_bulk.proofs.Headings.{one_more, all}
use Rattle.fhir_bulk.proofs.heading.headings_of.Goals as goal

pub loop-place-preserved : goal.loop-place-preserved
loop-place-preserved g c =
    one_more c.push.new.self.items c.loop-place.headings.items (record { text = c.in_ok-text.text; kind = c.kind-kind.result }) c.loop-place.place
    c.args.format (g.I.Inputs.inputs c.args.inputs.now) c.args.names.now (record { ref_ptr = (0, 0); now = [] })
    (headings_from 0 c.args.format (map (λ n. n.now) c.args.names.now) (g.I.Inputs.inputs c.args.inputs.now))
    c.loop-place-test.true c.in_ok-push.ensures.items c.in_ok-text.ensures c.kind-kind.ensures c.loop-place.invariant

pub returns : goal.returns
returns g c =
    all c.loop-place.headings.items c.loop-place.place c.args.format (g.I.Inputs.inputs c.args.inputs.now) c.args.names.now
    (headings_from 0 c.args.format (map (λ n. n.now) c.args.names.now) (g.I.Inputs.inputs c.args.inputs.now))
    c.loop-place-test.false c.loop-place.invariant
