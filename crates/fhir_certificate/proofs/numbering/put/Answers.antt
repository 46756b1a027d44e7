use Rattle.std.proofs.Common.{sym, ◌∙◌, rules}
use Rattle.fhir_certificate.proofs.Found.{found_there, found_behind}
use Rattle.fhir_certificate.proofs.numbering.put.Goals as goal

pub returns-then-is_some : goal.returns-then-is_some
returns-then-is_some c = found_there c.args.urls.now.items c.args.places.now c.args.url.now (search rules)

pub returns : goal.returns
returns c =
    found_behind c.args.urls.now.items c.push.new.self.items c.args.places.now c.add.new.self c.args.url (search rules) c.in_ok-push.ensures.items
    (λ names finds count. c.in_ok-add.ensures.added names finds (count ∙ sym (c.len.ensures ∙ c.args.urls.now.ok.0)))
