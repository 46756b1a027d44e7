use Rattle.fhir_inputs.specs.Inputs.{input_at}
use Rattle.fhir_inputs.specs.declared.teller.Stop.TheVariants.{Unread, NoMemory}
use Rattle.fhir_inputs.proofs.Told.{stopped}
use Rattle.fhir_inputs.proofs.going.tell_begun.Goals as goal

pub returns-in-Err-Device : goal.returns-in-Err-Device
returns-in-Err-Device g c =
    stopped g.T.Service.answers g.T.Teller.begins g.T.Teller.stops c.tell_stop.result (input_at (g.I.Inputs.inputs c.args.inputs.now) c.args.place) _ _
    Unread (g.W.Write.contents c.args.out.now) (g.W.Write.contents c.tell_stop.new.out) c.tell_stop.ensures

pub returns-in-Err-NoMemory : goal.returns-in-Err-NoMemory
returns-in-Err-NoMemory g c =
    stopped g.T.Service.answers g.T.Teller.begins g.T.Teller.stops c.tell_stop-in-Err-NoMemory.result (input_at (g.I.Inputs.inputs c.args.inputs.now) c.args.place) _ _
    NoMemory (g.W.Write.contents c.args.out.now) (g.W.Write.contents c.tell_stop-in-Err-NoMemory.new.out) c.tell_stop-in-Err-NoMemory.ensures
