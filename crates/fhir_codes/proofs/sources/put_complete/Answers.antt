use Rattle.std.proofs.Common.{◌∙◌, sym}
use Rattle.fhir_codes.proofs.Completes.{completes_put, completes_more}
use Rattle.fhir_codes.proofs.sources.put_complete.Goals as goal

pub returns-in_ok-put : goal.returns-in_ok-put
returns-in_ok-put c urls before =
    completes_put c.args.from.now c.args.complete.now c.put.new.self urls c.args.url.now (sym c.complete_at.ensures ∙ c.if-complete_at.true) before c.in_ok-put.ensures.put

pub returns-else-complete_at : goal.returns-else-complete_at
returns-else-complete_at c urls before =
    completes_more c.args.from.now c.args.complete.now urls c.args.url.now (sym c.complete_at.ensures ∙ c.if-complete_at.false) before
