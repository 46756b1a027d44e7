use Rattle.std.proofs.Common.{sym, ◌∙◌}
use Rattle.fhir_package.proofs.Forgotten.{has_last, last_forgotten, last_kept}
use Rattle.fhir_package.proofs.url_map.forget_last.Goals as goal

pub returns-in_default : goal.returns-in_default
returns-in_default c = λ names finds long. absurd (has_last c.args.urls.now names c.args.url.now finds (sym c.in_default.is ∙ c.get.ensures))

pub returns-then-there-place : goal.returns-then-there-place
returns-then-there-place c = λ names finds long.
    last_forgotten c.args.urls.now names c.args.url.now finds c.remove.new.self c.in-Some.there c.args.place long (sym c.in-Some.is ∙ c.get.ensures)
    c.if-there-place.true c.remove.ensures

pub returns-else-there-place : goal.returns-else-there-place
returns-else-there-place c = λ names finds long.
    last_kept c.args.urls.now names c.args.url.now finds c.in-Some.there c.args.place long (sym c.in-Some.is ∙ c.get.ensures) c.if-there-place.false
