use Rattle.std.proofs.Common.{◌≡◌, None, sym, ap, subst, ◌∙◌, map}
use Rattle.std.specs.Option.{option_or}
use Rattle.fhir_json.specs.Memory.{Gives}
use Rattle.fhir_certificate.specs.declared.pair.Pair.TheVariants.{Item, Kids}
use Rattle.fhir_cert_check.specs.Rules.{failing_rule}
use Rattle.fhir_cert_check.specs.Checking.{first_in}
use Rattle.fhir_cert_check.specs.Views.{failing_seen}
use Rattle.fhir_cert_check.specs.PairSet.{has_pair}
use Rattle.fhir_cert_check.proofs.Certified.{first_in-append}
use Rattle.fhir_cert_check.proofs.checking.first_wrong.Goals as goal

pub returns-in-Some : goal.returns-in-Some
returns-in-Some c =
    let f = failing_rule (has_pair c.args.pairs.now.set) c.args.schema.now in
    let items = map Item c.args.certificate.now.items in
    let kids = map Kids c.args.certificate.now.kids in
    let same : c.deref-2.result.now ≡ c.args.certificate.now.items = c.deref-2.ensures.value ∙ ap (λ v. v.items) c.certificate.view_is in
    let wrong = sym c.in_ok-wrong.ensures ∙ ap failing_seen c.in-Some.is in
    let e = ap (λ ps. first_in f (map Item ps)) (sym same) ∙ wrong in
    sym (first_in-append f items kids ∙ ap (λ o. option_or o (first_in f kids)) e)

pub returns-in-None : goal.returns-in-None
returns-in-None c =
    let f = failing_rule (has_pair c.args.pairs.now.set) c.args.schema.now in
    let items = map Item c.args.certificate.now.items in
    let kids = map Kids c.args.certificate.now.kids in
    let same : c.deref-2.result.now ≡ c.args.certificate.now.items = c.deref-2.ensures.value ∙ ap (λ v. v.items) c.certificate.view_is in
    let same_kids : c.deref-in-None-2.result.now ≡ c.args.certificate.now.kids = c.deref-in-None-2.ensures.value ∙ ap (λ v. v.kids) c.certificate.view_is in
    let right = sym c.in_ok-wrong.ensures ∙ ap failing_seen c.in-None.is in
    let e = ap (λ ps. first_in f (map Item ps)) (sym same) ∙ right in
    subst (λ x. Gives failing_seen c.first_kids.result x)
    (ap (λ ps. first_in f (map Kids ps)) same_kids
    ∙ sym (first_in-append f items kids ∙ ap (λ o. option_or o (first_in f kids)) e))
    c.first_kids.ensures
