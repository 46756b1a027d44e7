use Rattle.fhir_cert_check.proofs.Repeated.{put_so}
use Rattle.fhir_cert_check.proofs.pair_set.put.Goals as goal

pub returns : goal.returns
returns c = λ ps h.
    put_so c.args.set.now.keys c.insert.new.self.keys c.args.repeated.now.items c.push.new.self.items ps c.args.pair c.in_ok-is_new.is_new
    c.in_ok-is_new.ensures.added c.in_ok-push.ensures.items c.in_ok-is_new.ensures.updates.0 h
