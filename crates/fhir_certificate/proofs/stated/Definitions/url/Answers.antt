use Rattle.std.proofs.Common.{sym, ap, subst, ◌∙◌, Option, Vec, Global}
use Rattle.fhir_certificate.specs.declared.stated.StatedText.{StatedText}
use Rattle.fhir_certificate.specs.Views.{all_stated, AreNumbered}
use Rattle.fhir_certificate.proofs.Naming.{url_at_place, url_at_none}
use Rattle.fhir_certificate.proofs.stated.Definitions.url.Goals as goal

pub returns-in-Some-get : goal.returns-in-Some-get
returns-in-Some-get c =
    let places = c.self.inside.places in
    let numbered = subst (λ (o : Option (Vec StatedText Global)). AreNumbered (all_stated o) places) c.in-Some.is c.self.invariant in
    c.url_at.ensures
    ∙ url_at_place c.args.self.now c.in-Some.stated.items c.deref.result.now places c.args.text.now c.in-Some-get.place
    (sym c.self.view_is ∙ ap all_stated c.in-Some.is) c.deref.ensures.value numbered (sym c.get.ensures ∙ c.in-Some-get.is)

pub returns-in-None-get : goal.returns-in-None-get
returns-in-None-get c =
    let places = c.self.inside.places in
    let numbered = subst (λ (o : Option (Vec StatedText Global)). AreNumbered (all_stated o) places) c.in-Some.is c.self.invariant in
    url_at_none c.args.self.now c.in-Some.stated.items places c.args.text.now (sym c.self.view_is ∙ ap all_stated c.in-Some.is) numbered
    (sym c.get.ensures ∙ c.in-None-get.is)
