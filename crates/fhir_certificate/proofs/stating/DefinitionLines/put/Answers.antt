use Rattle.std.proofs.Common.{◌∙◌}
use Rattle.fhir_certificate.proofs.Pushed.{lines_push}
use Rattle.fhir_certificate.proofs.stating.DefinitionLines.put.Goals as goal

pub returns : goal.returns
returns c =
    lines_push c.args.self.now (record { stated = c.push.new.self; numbers = c.put_number.new.numbers; urls = c.add.new.self; repeated = c.repeated_with-self.result })
    c.args.stated c.len-place.result (c.len-place.ensures ∙ c.args.self.now.stated.ok.0) c.in_ok-push.ensures.items c.repeated_with-self.ensures c.in_ok-add.ensures.added c.in_ok-put_number.ensures
