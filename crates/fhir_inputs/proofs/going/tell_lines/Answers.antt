use Rattle.fhir_inputs.proofs.Told.{stopped_behind}
use Rattle.fhir_inputs.specs.declared.teller.Stop.TheVariants.{Unread}
use Rattle.fhir_inputs.proofs.going.tell_lines.Goals as goal

pub returns-in-Unread : goal.returns-in-Unread
returns-in-Unread g c =
    let of_serving = c.in-Unread.ensures in
    stopped_behind g.T.Service.answers g.T.Teller.begins g.T.Teller.stops c.tell_stop.result (g.R.Read.remaining c.args.reader.now) _ _ _
    of_serving.0 of_serving.1 Unread (g.W.Write.contents c.args.out.now) (g.W.Write.contents c.serve.new.out) (g.W.Write.contents c.tell_stop.new.out)
    of_serving.2 of_serving.3 of_serving.4 c.tell_stop.ensures
