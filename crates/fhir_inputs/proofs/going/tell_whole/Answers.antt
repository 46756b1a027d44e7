use Rattle.fhir_inputs.proofs.Told.{stopped, told_whole}
use Rattle.fhir_inputs.specs.declared.input.Kind.TheVariants.{Document}
use Rattle.fhir_inputs.proofs.going.tell_whole.Goals as goal

pub returns-in-Ok : goal.returns-in-Ok
returns-in-Ok g c =
    told_whole g.T.Service.answers g.T.Teller.begins g.T.Teller.stops c.tell_document.result (g.R.Read.remaining c.args.reader.now) c.in-Ok.bytes.items _ _
    (g.W.Write.contents c.args.out.now) (g.W.Write.contents c.tell_document.new.out) c.in-Ok.ensures (rw c.deref.ensures.value at c.tell_document.ensures)

pub returns-in-Err : goal.returns-in-Err
returns-in-Err g c =
    stopped g.T.Service.answers g.T.Teller.begins g.T.Teller.stops c.tell_stop.result (record { kind = Document; bytes = g.R.Read.remaining c.args.reader.now }) _ _
    c.in-Err.stop (g.W.Write.contents c.args.out.now) (g.W.Write.contents c.tell_stop.new.out) c.tell_stop.ensures
