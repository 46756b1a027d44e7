use Rattle.std.proofs.Common.{◌≡◌, ◌∷◌, [], true, sym, ap, ◌∙◌, subst}
use Rattle.std.specs.Prelude.{OnOk}
use Rattle.std.specs.List.{Contains}
use Rattle.fhir_facets.specs.Unread.{is_given}
use Rattle.fhir_facets.specs.Views.{unread_seen, rules_in}
use Rattle.fhir_validator.specs.Listing.{RuleIsTold}
use Rattle.fhir_validator.proofs.Asking.{contains_first}
use Rattle.fhir_validator.proofs.Resting.{AreTold, told_one}
use Rattle.fhir_validator.proofs.Told.{on_ok}
use Rattle.fhir_validator.proofs.judging.Judge.put_given.Goals as goal

pub put_site-requires : goal.put_site-requires
put_site-requires c =
    let layout = c.args.self.now in
    let u = unread_seen c.in-Some.rule in
    let has : Contains (rules_in c.args.unread) u = subst (λ o. Contains (rules_in o) u) (sym c.in-Some.is) (contains_first [] u) in
    let found = rw c.in-Some.is at c.contains.ensures in
    let texts : c.given.result.now ≡ layout.given = c.given.ensures ∙ ap (λ l. l.given) c.layout.ensures in
    let given : is_given layout.given u ≡ true = ap (λ ts. is_given ts u) (sym texts) ∙ sym found ∙ c.if-contains.true in
    rw c.in-Some.is (c.requires u has given)

pub returns-in-Some-clause-told : goal.returns-in-Some-clause-told
returns-in-Some-clause-told c =
    let layout = c.args.self.now in
    let new = c.put_site.new.listing in
    let u = unread_seen c.in-Some.rule in
    let told = rw c.in-Some.is at c.put_site.ensures.told in
    subst (λ o. OnOk c.put_site.result (AreTold layout new (rules_in o))) (sym c.in-Some.is)
    (on_ok (RuleIsTold layout new u) (AreTold layout new (u ∷ [])) (told_one layout new u) c.put_site.result told)
