use Rattle.std.proofs.Common.{◌≡◌, ap, ◌∙◌, sym, subst}
use Rattle.fhir_instance.specs.View.{item_of}
use Rattle.fhir_validator.specs.declared.judgement.Judgement.TheVariants.{Holds, Given, Open, Fails}
use Rattle.fhir_validator.specs.declared.pair.ItemPair.{ItemPair}
use Rattle.fhir_validator.specs.Layouts.{item_at, resource_of}
use Rattle.fhir_validator.specs.Judging.{IsRight}
use Rattle.fhir_validator.proofs.Whole.{holding, given_verdict, open_verdict, fails_verdict}
use Rattle.fhir_validator.proofs.validation.judged_verdict.Goals as goal

pub returns-in-Holds : goal.returns-in-Holds
returns-in-Holds c =
    let s = c.args.schema.now in
    let texts = c.args.given.now in
    let x = item_of c.args.item.now in
    let n = c.args.node in
    let p : ItemPair = record { item = 0; node = n } in
    let layout = c.judgement_of.new.self in
    let now : layout ≡ c.in_ok-of.field-0 = c.in_ok-judgement_of.ensures.same ∙ c.new-judge.ensures in
    let same = ap (λ l. l.schema) now ∙ c.in_ok-of.ensures.schema in
    let givens = ap (λ l. l.given) now ∙ c.in_ok-of.ensures.given in
    let itself = ap (λ l. item_at l 0) now ∙ c.in_ok-of.ensures.item in
    let whole = ap (λ l. resource_of l 0) now ∙ c.in_ok-of.ensures.resource in
    let right = subst (λ l. IsRight l p Holds) (sym c.in_ok-judgement_of.ensures.same)
    (subst (IsRight c.new-judge.result p) c.in-Holds.is c.in_ok-judgement_of.ensures.exact) in
    holding s texts x n layout same givens itself whole (c.positive.ensures.items s) right c.new.result c.new.ensures.items

pub returns-in-Given : goal.returns-in-Given
returns-in-Given c =
    let s = c.args.schema.now in
    let texts = c.args.given.now in
    let x = item_of c.args.item.now in
    let n = c.args.node in
    let p : ItemPair = record { item = 0; node = n } in
    let layout = c.judgement_of.new.self in
    let now : layout ≡ c.in_ok-of.field-0 = c.in_ok-judgement_of.ensures.same ∙ c.new-judge.ensures in
    let same = ap (λ l. l.schema) now ∙ c.in_ok-of.ensures.schema in
    let givens = ap (λ l. l.given) now ∙ c.in_ok-of.ensures.given in
    let itself = ap (λ l. item_at l 0) now ∙ c.in_ok-of.ensures.item in
    let whole = ap (λ l. resource_of l 0) now ∙ c.in_ok-of.ensures.resource in
    let right = subst (λ l. IsRight l p Given) (sym c.in_ok-judgement_of.ensures.same)
    (subst (IsRight c.new-judge.result p) c.in-Given.is c.in_ok-judgement_of.ensures.exact) in
    given_verdict s texts x n layout same givens itself whole right c.in_ok-listing-in-Given.listing c.in_ok-listing-in-Given.ensures.kept c.in_ok-listing-in-Given.ensures.told c.in_ok-listing-in-Given.ensures.found
    c.into_sites.result c.into_sites.ensures

pub returns-in-Open : goal.returns-in-Open
returns-in-Open c =
    let s = c.args.schema.now in
    let texts = c.args.given.now in
    let x = item_of c.args.item.now in
    let n = c.args.node in
    let p : ItemPair = record { item = 0; node = n } in
    let layout = c.judgement_of.new.self in
    let now : layout ≡ c.in_ok-of.field-0 = c.in_ok-judgement_of.ensures.same ∙ c.new-judge.ensures in
    let same = ap (λ l. l.schema) now ∙ c.in_ok-of.ensures.schema in
    let givens = ap (λ l. l.given) now ∙ c.in_ok-of.ensures.given in
    let itself = ap (λ l. item_at l 0) now ∙ c.in_ok-of.ensures.item in
    let whole = ap (λ l. resource_of l 0) now ∙ c.in_ok-of.ensures.resource in
    let right = subst (λ l. IsRight l p Open) (sym c.in_ok-judgement_of.ensures.same)
    (subst (IsRight c.new-judge.result p) c.in-Open.is c.in_ok-judgement_of.ensures.exact) in
    open_verdict s texts x n layout same givens itself whole right c.in_ok-listing-in-Open.listing c.in_ok-listing-in-Open.ensures.kept c.in_ok-listing-in-Open.ensures.told c.in_ok-listing-in-Open.ensures.found
    c.into_sites-in-Open.result c.into_sites-in-Open.ensures

pub returns : goal.returns
returns c =
    let s = c.args.schema.now in
    let texts = c.args.given.now in
    let x = item_of c.args.item.now in
    let n = c.args.node in
    let p : ItemPair = record { item = 0; node = n } in
    let layout = c.judgement_of.new.self in
    let now : layout ≡ c.in_ok-of.field-0 = c.in_ok-judgement_of.ensures.same ∙ c.new-judge.ensures in
    let same = ap (λ l. l.schema) now ∙ c.in_ok-of.ensures.schema in
    let givens = ap (λ l. l.given) now ∙ c.in_ok-of.ensures.given in
    let itself = ap (λ l. item_at l 0) now ∙ c.in_ok-of.ensures.item in
    let whole = ap (λ l. resource_of l 0) now ∙ c.in_ok-of.ensures.resource in
    let right = subst (λ l. IsRight l p Fails) (sym c.in_ok-judgement_of.ensures.same)
    (subst (IsRight c.new-judge.result p) c.in-Fails.is c.in_ok-judgement_of.ensures.exact) in
    fails_verdict s texts x n layout same givens itself whole right c.in_ok-listing-in-Fails.listing c.in_ok-listing-in-Fails.ensures.kept c.in_ok-listing-in-Fails.ensures.told c.in_ok-listing-in-Fails.ensures.found
    c.into_issues.result c.into_issues.ensures
