use Rattle.std.proofs.Common.{Some, None, ap, sym, ◌∙◌}
use Rattle.std.specs.Option.{option_copied}
use Rattle.fhir_reach.specs.Places.{places_under}
use Rattle.fhir_reach.proofs.Grouped.{under_seen}
use Rattle.fhir_reach.proofs.places.TypePlaces.get.Goals as goal

pub returns-in-Some : goal.returns-in-Some
returns-in-Some c =
    c.deref.ensures.value
    ∙ sym (under_seen (λ v. v.items) c.self.inside.places c.args.code.now (Some c.in-Some.places.now) (sym c.get.ensures ∙ ap option_copied c.in-Some.is))
    ∙ ap (λ places. places_under places c.args.code.now) c.self.view_is

pub returns-in-None : goal.returns-in-None
returns-in-None c =
    c.default.ensures
    ∙ sym (under_seen (λ v. v.items) c.self.inside.places c.args.code.now None (sym c.get.ensures ∙ ap option_copied c.in-None.is))
    ∙ ap (λ places. places_under places c.args.code.now) c.self.view_is
